-- Which command a reply of the relay refuses, where the reply table gives that reply to one command alone (RFC 5321,
-- section 4.3.2). The others answer several commands, or refuse none.
use Rattle.std.specs.Prelude.{◌≡◌, ◌⊎◌, List, [], ◌∷◌, ◌++◌, ℕ, Option, None, Some}
use Rattle.relay_octets.specs.Line.{crlf}
use Rattle.relay_lines.specs.Reply.{reply_text}
use Rattle.relay_server.specs.Reply.{reply_of}
use Rattle.relay_server.specs.declared.reply_table.Row.{Row}
use Rattle.relay_server.specs.declared.reply_table.Row.TheVariants.{TooManyRecipients, RoutedAddress, NoRoute}
use Rattle.relay_server.specs.declared.reply_table.Row.TheVariants.{UnknownCommand}
use Rattle.relay_server.specs.declared.reply_table.Row.TheVariants.{BadChunkSize}
use Rattle.relay_log.specs.declared.refused.Refused.{Refused}
use Rattle.relay_log.specs.declared.refused.Refused.TheVariants.{Rcpt, Bdat, Unknown}

-- the rows of the reply table that answer this command, and no other, with a refusal
abbrev pub refusals_of : Refused → List Row
refusals_of Rcpt = NoRoute ∷ RoutedAddress ∷ TooManyRecipients ∷ []
refusals_of Bdat = BadChunkSize ∷ []
refusals_of Unknown = UnknownCommand ∷ []

-- a row of these is written as this line and CR LF, at a server with some host name
abbrev pub IsWrittenBy : List Row → List ℕ → Type 0
IsWrittenBy [] line = ⊥
IsWrittenBy (row ∷ rows) line =
    ((host : List ℕ) × (reply_text (reply_of host row) ≡ line ++ crlf)) ⊎ IsWrittenBy rows line

-- the line, without its CR LF, refuses this command and could refuse no other
abbrev pub Refuses : List ℕ → Refused → Type 0
Refuses line command = IsWrittenBy (refusals_of command) line

-- the command that the line refuses, if it refuses one alone
abbrev pub NamesRefused : List ℕ → Option Refused → Type 0
NamesRefused line None = (command : Refused) → Refuses line command → ⊥
NamesRefused line (Some command) = Refuses line command

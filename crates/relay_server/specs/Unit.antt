-- Units: what a server reads next, by what it awaits (RFC 5321, sections 2.3.8 and 4.5.2; RFC 2920,
-- section 3.2; RFC 3030, section 2).
use Rattle.std.specs.Prelude.{◌≡◌, ◌≢◌, ◌⊎◌, ◌<◌, ◌≤◌, ℕ, nat_le, Bool, List, ◌++◌, length, Result, Ok, Err}
use Rattle.std.specs.Prelude.{if◌then◌else◌}
use Rattle.relay_octets.specs.Line.{crlf, HasNoCrlf}
use Rattle.relay_body.specs.DotText.{ReadsDotText}
use Rattle.relay_lines.specs.declared.command.LineFault.{LineFault}
use Rattle.relay_lines.specs.declared.command.LineFault.TheVariants.{BadChunkSize}
use Rattle.relay_lines.specs.ChunkArgument.{begins_with_bdat}
use Rattle.relay_lines.specs.Command as line
use Rattle.relay_lines.specs.Command.{reading_of}
use Rattle.relay_envelope.specs.declared.fault.EnvelopeFault.{EnvelopeFault}
use Rattle.relay_envelope.specs.Mail.{Mail as MailSaid, Rcpt as RcptSaid, ReadsMail, ReadsRcpt}
use Rattle.relay_trace.specs.declared.received.Protocol.TheVariants.{Smtp, Esmtp}
use Rattle.relay_server.specs.declared.client.Client.{Client}
use Rattle.relay_server.specs.State.{State, Command, Receiving, Closed, client_of}

-- how many octets a line announces, which follow it at once: those of its chunk, or none
abbrev pub announced_by : Result line.Command LineFault → ℕ
announced_by (Ok (line.Bdat argument)) = argument.size
announced_by _ = 0

abbrev pub announced_of : List ℕ → ℕ
announced_of text = if nat_le (length text) 2046 then announced_by (reading_of text) else 0

-- a command line with its CR LF, and the octets of its chunk after it
pub record IsCommandUnit (unit text octets : List ℕ) : Type 0 where
  pub unit_is : unit ≡ text ++ crlf ++ octets
  pub line : HasNoCrlf text
  pub counted : length octets ≡ announced_of text

-- a line where a command is awaited, and a dot text after DATA that was answered 354
abbrev pub IsUnit : State → List ℕ → Type 0
IsUnit (Command state) unit = (text : List ℕ) × (octets : List ℕ) × IsCommandUnit unit text octets
IsUnit (Receiving client envelope) unit = (content : List ℕ) × ReadsDotText unit content
IsUnit Closed unit = ⊥

-- no beginning of the octets is a whole unit
abbrev pub HasNoUnit : State → List ℕ → Type 0
HasNoUnit state octets = (unit rest : List ℕ) → IsUnit state unit → octets ≢ unit ++ rest

-- what a command line asks of the server; what is after a colon is read before the command's place in the order of
-- commands is checked
pub data Asked : Type 0 where
  LongLine : Asked
  Faulty : LineFault → Asked
  Hello : Client → Asked
  Mail : Result MailSaid EnvelopeFault → Asked
  Rcpt : Result RcptSaid EnvelopeFault → Asked
  Data : Asked
  Bdat : List ℕ → Bool → Asked
  Rset : Asked
  Noop : Asked
  Vrfy : Asked
  Help : Asked
  Quit : Asked

-- the reading of a line, with the octets after it, asks this
abbrev pub AsksBy : Result line.Command LineFault → List ℕ → Asked → Type 0
AsksBy (Err fault) octets asked = asked ≡ Faulty fault
AsksBy (Ok (line.Helo word)) octets asked = asked ≡ Hello (client_of word Smtp)
AsksBy (Ok (line.Ehlo word)) octets asked = asked ≡ Hello (client_of word Esmtp)
AsksBy (Ok (line.Mail text)) octets asked =
    (read : Result MailSaid EnvelopeFault) × ReadsMail text read × (asked ≡ Mail read)
AsksBy (Ok (line.Rcpt text)) octets asked =
    (read : Result RcptSaid EnvelopeFault) × ReadsRcpt text read × (asked ≡ Rcpt read)
AsksBy (Ok line.Data) octets asked = asked ≡ Data
AsksBy (Ok (line.Bdat argument)) octets asked = asked ≡ Bdat octets argument.last
AsksBy (Ok line.Rset) octets asked = asked ≡ Rset
AsksBy (Ok line.Noop) octets asked = asked ≡ Noop
AsksBy (Ok line.Vrfy) octets asked = asked ≡ Vrfy
AsksBy (Ok line.Help) octets asked = asked ≡ Help
AsksBy (Ok line.Quit) octets asked = asked ≡ Quit

-- what a line asks that is too long, whatever it holds; of a chunk's size nobody knows then how
-- many octets follow
abbrev pub asked_of_long : List ℕ → Asked
asked_of_long text = if begins_with_bdat text then Faulty BadChunkSize else LongLine

-- the line, with the octets after it, asks this; a line of more than 2,048 octets with its CR LF is too long
abbrev pub Asks : List ℕ → List ℕ → Asked → Type 0
Asks text octets asked =
    ((2046 < length text) × (asked ≡ asked_of_long text))
    ⊎ ((length text ≤ 2046) × AsksBy (reading_of text) octets asked)

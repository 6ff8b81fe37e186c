-- The text of every reply of the server (RFC 5321, section 4.2.3).
use Rattle.std.specs.Prelude.{◌≡◌, ◌<◌, ℕ, List, [], ◌∷◌, ◌++◌, codes, decimal}
use Rattle.relay_lines.specs.Reply.{Reply, made_of, one_line}
use Rattle.relay_server.specs.declared.reply_table.Row.{Row}
use Rattle.relay_server.specs.declared.reply_table.Text.{Text}
use Rattle.relay_server.specs.declared.reply_table.Text.TheVariants as text
use Rattle.relay_server.specs.declared.reply_table.Row.TheVariants.{Greeting, Hello, Extensions, SenderOk, RecipientOk}
use Rattle.relay_server.specs.declared.reply_table.Row.TheVariants.{TooManyRecipients, RoutedAddress, NoRoute}
use Rattle.relay_server.specs.declared.reply_table.Row.TheVariants.{BadSequence}
use Rattle.relay_server.specs.declared.reply_table.Row.TheVariants.{NoValidRecipients, StartMailInput, ChunkOk}
use Rattle.relay_server.specs.declared.reply_table.Row.TheVariants.{ContentTooLarge, TooManyReceived, BareLineEnd}
use Rattle.relay_server.specs.declared.reply_table.Row.TheVariants.{NulInContent}
use Rattle.relay_server.specs.declared.reply_table.Row.TheVariants.{Queued, SpoolFull, Done, NotVerified, SeeStandard}
use Rattle.relay_server.specs.declared.reply_table.Row.TheVariants.{Closing, UnknownCommand, BadOctet, LineTooLong}
use Rattle.relay_server.specs.declared.reply_table.Row.TheVariants.{BadArgument, BadPath, BadValue, Repeated}
use Rattle.relay_server.specs.declared.reply_table.Row.TheVariants.{UnknownParameter, NotOffered, BadChunkSize}

-- what each row answers, at a server with this host name
unfoldable pub reply_of : List ℕ → Row → Reply
reply_of host Greeting = one_line 220 (host ++ codes " ESMTP relay ready")
reply_of host Hello = one_line 250 host
reply_of host Extensions = made_of 250 (host ∷ codes "PIPELINING" ∷ codes "CHUNKING" ∷ codes "DSN" ∷ [])
reply_of host SenderOk = one_line 250 (codes "sender OK")
reply_of host RecipientOk = one_line 250 (codes "recipient OK")
reply_of host TooManyRecipients = one_line 452 (codes "too many recipients")
reply_of host RoutedAddress = one_line 553 (codes "routed address refused")
reply_of host NoRoute = one_line 550 (codes "no route")
reply_of host BadSequence = one_line 503 (codes "bad sequence")
reply_of host NoValidRecipients = one_line 554 (codes "no valid recipients")
reply_of host StartMailInput = one_line 354 (codes "end with a line of one period")
reply_of host ChunkOk = one_line 250 (codes "chunk OK")
reply_of host ContentTooLarge = one_line 552 (codes "content too large")
reply_of host TooManyReceived = one_line 554 (codes "too many Received fields")
reply_of host BareLineEnd = one_line 554 (codes "bare line end in content")
reply_of host NulInContent = one_line 554 (codes "NUL in content")
reply_of host (Queued number) = one_line 250 (codes "queued as " ++ decimal number)
reply_of host SpoolFull = one_line 452 (codes "spool full")
reply_of host Done = one_line 250 (codes "OK")
reply_of host NotVerified = one_line 252 (codes "not verified")
reply_of host SeeStandard = one_line 214 (codes "see RFC 5321")
reply_of host Closing = one_line 221 (host ++ codes " closing")
reply_of host UnknownCommand = one_line 500 (codes "unknown command")
reply_of host BadOctet = one_line 500 (codes "bad octet in line")
reply_of host LineTooLong = one_line 500 (codes "line too long")
reply_of host BadArgument = one_line 501 (codes "bad argument")
reply_of host BadPath = one_line 501 (codes "bad path")
reply_of host BadValue = one_line 501 (codes "bad parameter value")
reply_of host Repeated = one_line 501 (codes "parameter given twice")
reply_of host UnknownParameter = one_line 555 (codes "unknown parameter")
reply_of host NotOffered = one_line 502 (codes "not implemented")
reply_of host BadChunkSize = one_line 421 (host ++ codes " bad chunk size, closing")

-- a reply of this text, at a server with this host name
abbrev pub reply_by : List ℕ → Text → Reply
reply_by host (text.Line code words) = one_line code words.now
reply_by host (text.HostLine code words) = one_line code (host ++ words.now)
reply_by host text.Extensions = reply_of host Extensions
reply_by host (text.Queued number) = one_line 250 (codes "queued as " ++ decimal number)

-- the code of a text has at most three digits
abbrev pub HasCode : Text → Type 0
HasCode (text.Line code words) = code < 1000
HasCode (text.HostLine code words) = code < 1000
HasCode text.Extensions = Unit {0}
HasCode (text.Queued number) = Unit {0}

-- the row is answered by this text
pub record IsTextOf (row : Row) (its : Text) : Type 0 where
  pub reply : (host : List ℕ) → reply_of host row ≡ reply_by host its
  pub code : HasCode its

-- The reply table: to each unit and state the row that answers it, and the state after it, or an
-- offer (RFC 5321, section 4.3.2; RFC 3030, section 2).
use Rattle.std.specs.Prelude.{ℕ, Bool, List, [], ◌∷◌, ◌++◌, length, nat_le, Option, Some, None, is_some, Result, Ok}
use Rattle.std.specs.Prelude.{Err}
use Rattle.std.specs.Prelude.{if◌then◌else◌}
use Rattle.relay_lines.specs.declared.command.LineFault.{LineFault}
use Rattle.relay_lines.specs.declared.command.LineFault.TheVariants as line
use Rattle.relay_body.specs.BareEnds.{has_bare_end}
use Rattle.relay_body.specs.Nul.{has_nul}
use Rattle.relay_envelope.specs.declared.envelope.Envelope.{Envelope}
use Rattle.relay_envelope.specs.declared.fault.EnvelopeFault.{EnvelopeFault}
use Rattle.relay_envelope.specs.declared.fault.EnvelopeFault.TheVariants as envelope
use Rattle.relay_envelope.specs.Envelope.{envelope_from, recipient_from}
use Rattle.relay_envelope.specs.Mail.{Mail as MailSaid, Rcpt as RcptSaid}
use Rattle.relay_trace.specs.declared.received.Protocol.{Protocol}
use Rattle.relay_trace.specs.declared.received.Protocol.TheVariants.{Smtp, Esmtp}
use Rattle.relay_trace.specs.HeaderSection.{received_count_of}
use Rattle.relay_server.specs.declared.client.Client.{Client}
use Rattle.relay_server.specs.declared.reply_table.Row.{Row}
use Rattle.relay_server.specs.declared.reply_table.Row.TheVariants as row
use Rattle.relay_routes.specs.RoutedPath.{refuses_path}
use Rattle.relay_routes.specs.Routes.{hop_of}
use Rattle.relay_routes.specs.declared.bare_newlines.BareNewlines.{BareNewlines}
use Rattle.relay_routes.specs.declared.bare_newlines.BareNewlines.TheVariants.{Pass, Refuse}
use Rattle.relay_server.specs.Setup.{Setup}
use Rattle.relay_server.specs.State.{CommandState, Fresh, Greeted, Open, Gathering, Spent, State, Command, Receiving}
use Rattle.relay_server.specs.State.{Closed}
use Rattle.relay_server.specs.Unit.{Asked, LongLine, Faulty, Hello, Mail, Rcpt, Data, Bdat, Rset, Noop, Vrfy, Help}
use Rattle.relay_server.specs.Unit.{Quit}

-- the outcome of a unit: a reply, and the state after it, or an offer, which its answer replies to
pub data Course : Type 0 where
  Replies : Row → State → Course
  Offers : Client → Envelope → List ℕ → Course

abbrev pub row_of_fault : LineFault → Row
row_of_fault line.Unknown = row.UnknownCommand
row_of_fault line.BadByte = row.BadOctet
row_of_fault line.BadArgument = row.BadArgument
row_of_fault line.NotOffered = row.NotOffered
row_of_fault line.BadChunkSize = row.BadChunkSize

-- a fault of a line changes no state, but that nobody knows what follows a bad chunk size
abbrev pub state_after_fault : LineFault → CommandState → State
state_after_fault line.BadChunkSize state = Closed
state_after_fault _ state = Command state

abbrev pub row_of_envelope_fault : EnvelopeFault → Row
row_of_envelope_fault envelope.BadPath = row.BadPath
row_of_envelope_fault envelope.BadValue = row.BadValue
row_of_envelope_fault envelope.Repeated = row.Repeated
row_of_envelope_fault envelope.UnknownParameter = row.UnknownParameter

-- HELO is answered by the host's name, and EHLO by what it offers too
abbrev pub row_of_hello : Protocol → Row
row_of_hello Smtp = row.Hello
row_of_hello Esmtp = row.Extensions

-- MAIL opens a transaction where the client is greeted and none is open
abbrev pub course_of_mail : Result MailSaid EnvelopeFault → CommandState → Course
course_of_mail (Err fault) state = Replies (row_of_envelope_fault fault) (Command state)
course_of_mail (Ok mail) Fresh = Replies row.BadSequence (Command Fresh)
course_of_mail (Ok mail) (Greeted client) = Replies row.SenderOk (Command (Open client (envelope_from mail)))
course_of_mail (Ok mail) (Open client envelope) = Replies row.BadSequence (Command (Open client envelope))
course_of_mail (Ok mail) (Gathering client envelope content) =
    Replies row.BadSequence (Command (Gathering client envelope content))
course_of_mail (Ok mail) (Spent client) = Replies row.BadSequence (Command (Spent client))

-- a further recipient
abbrev pub with_recipient : Envelope → RcptSaid → Envelope
with_recipient envelope rcpt =
    record envelope { recipients = envelope.recipients ++ recipient_from rcpt ∷ [] }

-- RCPT adds a recipient whose path isn't refused, and that has a next hop; a transaction takes 100
abbrev pub course_of_rcpt : Setup → Result RcptSaid EnvelopeFault → CommandState → Course
course_of_rcpt setup (Err fault) state = Replies (row_of_envelope_fault fault) (Command state)
course_of_rcpt setup (Ok rcpt) Fresh = Replies row.BadSequence (Command Fresh)
course_of_rcpt setup (Ok rcpt) (Greeted client) = Replies row.BadSequence (Command (Greeted client))
course_of_rcpt setup (Ok rcpt) (Open client envelope) =
    if nat_le 100 (length envelope.recipients)
    then Replies row.TooManyRecipients (Command (Open client envelope))
    else (if refuses_path setup.routed_paths rcpt.path
    then Replies row.RoutedAddress (Command (Open client envelope))
    else (if is_some (hop_of setup.routes rcpt.path)
    then Replies row.RecipientOk (Command (Open client (with_recipient envelope rcpt)))
    else Replies row.NoRoute (Command (Open client envelope))))
course_of_rcpt setup (Ok rcpt) (Gathering client envelope content) =
    Replies row.BadSequence (Command (Gathering client envelope content))
course_of_rcpt setup (Ok rcpt) (Spent client) = Replies row.BadSequence (Command (Spent client))

-- DATA begins mail data where a recipient was accepted
abbrev pub course_of_data : CommandState → Course
course_of_data Fresh = Replies row.BadSequence (Command Fresh)
course_of_data (Greeted client) = Replies row.BadSequence (Command (Greeted client))
course_of_data (Open client envelope) =
    if nat_le 1 (length envelope.recipients) then Replies row.StartMailInput (Receiving client envelope)
    else Replies row.NoValidRecipients (Command (Open client envelope))
course_of_data (Gathering client envelope content) =
    Replies row.BadSequence (Command (Gathering client envelope content))
course_of_data (Spent client) = Replies row.BadSequence (Command (Spent client))

-- a content that is whole is offered, but for one that has come in a circle; the transaction is
-- over, whatever comes of it
abbrev pub course_of_content : Client → Envelope → List ℕ → Course
course_of_content client envelope content =
    if nat_le 100 (received_count_of content) then Replies row.TooManyReceived (Command (Greeted client))
    else Offers client envelope content

-- mail data that has come whole
abbrev pub course_of_text : ℕ → Client → Envelope → List ℕ → Course
course_of_text limit client envelope content =
    if nat_le (length content) limit then course_of_content client envelope content
    else Replies row.ContentTooLarge (Command (Greeted client))

-- the content of the chunks so far, and LAST at the last of them
abbrev pub course_of_chunks : ℕ → Client → Envelope → List ℕ → Bool → Course
course_of_chunks limit client envelope content last =
    if nat_le (length content) limit
    then (if last then course_of_content client envelope content
    else Replies row.ChunkOk (Command (Gathering client envelope content)))
    else Replies row.ContentTooLarge (Command (Spent client))

-- BDAT adds a chunk where a recipient was accepted; after a refusal the transaction takes nothing more
abbrev pub course_of_bdat : ℕ → List ℕ → Bool → CommandState → Course
course_of_bdat limit octets last Fresh = Replies row.BadSequence (Command Fresh)
course_of_bdat limit octets last (Greeted client) = Replies row.BadSequence (Command (Greeted client))
course_of_bdat limit octets last (Open client envelope) =
    if nat_le 1 (length envelope.recipients) then course_of_chunks limit client envelope octets last
    else Replies row.NoValidRecipients (Command (Spent client))
course_of_bdat limit octets last (Gathering client envelope content) =
    course_of_chunks limit client envelope (content ++ octets) last
course_of_bdat limit octets last (Spent client) = Replies row.BadSequence (Command (Spent client))

-- the row by which this rule refuses a content: a CR or an LF stands alone in it (RFC 5321, section 2.3.8), or NUL is
-- in it, which a hop may drop, so that what stands around it comes together
abbrev pub refusal_by : BareNewlines → List ℕ → Option Row
refusal_by Pass content = None
refusal_by Refuse content =
    if has_bare_end content then Some row.BareLineEnd
    else (if has_nul content then Some row.NulInContent else None)

-- the rule refuses the content
abbrev pub is_refused_by : BareNewlines → List ℕ → Bool
is_refused_by rule content = is_some (refusal_by rule content)

-- an offer, or the row that refuses it, and its transaction is over
abbrev pub offer_unless : Option Row → Client → Envelope → List ℕ → Course
offer_unless None client envelope content = Offers client envelope content
offer_unless (Some refusal) client envelope content = Replies refusal (Command (Greeted client))

-- the outcome of the end of a content: after all other faults, one that the rule refuses isn't offered
abbrev pub unless_refused : BareNewlines → Course → Course
unless_refused rule (Replies row next) = Replies row next
unless_refused rule (Offers client envelope content) = offer_unless (refusal_by rule content) client envelope content

-- RSET gives the transaction up
abbrev pub without_transaction : CommandState → CommandState
without_transaction Fresh = Fresh
without_transaction (Greeted client) = Greeted client
without_transaction (Open client envelope) = Greeted client
without_transaction (Gathering client envelope content) = Greeted client
without_transaction (Spent client) = Greeted client

-- the table for command lines
abbrev pub course_of : Setup → Asked → CommandState → Course
course_of setup LongLine state = Replies row.LineTooLong (Command state)
course_of setup (Faulty fault) state = Replies (row_of_fault fault) (state_after_fault fault state)
course_of setup (Hello client) state = Replies (row_of_hello client.protocol) (Command (Greeted client))
course_of setup (Mail mail) state = course_of_mail mail state
course_of setup (Rcpt rcpt) state = course_of_rcpt setup rcpt state
course_of setup Data state = course_of_data state
course_of setup (Bdat octets last) state =
    unless_refused setup.bare_newlines (course_of_bdat setup.max_content octets last state)
course_of setup Rset state = Replies row.Done (Command (without_transaction state))
course_of setup Noop state = Replies row.Done (Command state)
course_of setup Vrfy state = Replies row.NotVerified (Command state)
course_of setup Help state = Replies row.SeeStandard (Command state)
course_of setup Quit state = Replies row.Closing Closed

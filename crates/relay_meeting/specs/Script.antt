-- What two relays of ours say to each other: the script of a delivery at a server, by what its table makes of each
-- place.
use Rattle.std.specs.Prelude.{◌≡◌, ℕ, nat_le, Bool, true, false, List, [], ◌∷◌, ◌++◌, length, if◌then◌else◌, is_some}
use Rattle.std.specs.Prelude.{slice_get, Some, Ok}
use Rattle.relay_lines.specs.Reply.{Reply}
use Rattle.relay_body.specs.DotText.{ends_in_line_end}
use Rattle.relay_envelope.specs.declared.envelope.Envelope.{Envelope}
use Rattle.relay_envelope.specs.declared.envelope.Recipient.{Recipient}
use Rattle.relay_envelope.specs.Envelope.{IsEnvelope, IsRecipient, rcpt_text, recipient_from}
use Rattle.relay_envelope.specs.Mail.{Rcpt as RcptSaid, ReadsRcpt}
use Rattle.relay_routes.specs.RoutedPath.{refuses_path}
use Rattle.relay_routes.specs.Routes.{hop_of}
use Rattle.relay_trace.specs.declared.received.Protocol.TheVariants.{Esmtp}
use Rattle.relay_server.specs.declared.client.Client.{Client}
use Rattle.relay_server.specs.declared.reply_table.Row.{Row}
use Rattle.relay_server.specs.declared.reply_table.Row.TheVariants as row
use Rattle.relay_server.specs.Reply.{reply_of}
use Rattle.relay_server.specs.ReplyTable.{Course, Replies, course_of_text, course_of_chunks, unless_refused}
use Rattle.relay_server.specs.Setup.{Setup}
use Rattle.relay_server.specs.State.{Greeted, Open, Command, Receiving, Closed, client_of, start}
use Rattle.relay_course.specs.WrittenLine.{ehlo_line, mail_line, rcpt_line, data_line, last_chunk, quit_line}
use Rattle.relay_course.specs.Progress.{Delivery, progress}
use Rattle.relay_course.specs.Laws.{AreWithin, IsDelivery}
use Rattle.relay_meeting.specs.Meeting.{IsScript, Step, Writes, step_of}

-- the recipient of a place that is tried, whether the server refuses its path as a routed one, and whether it takes it
pub record Tried : Type 0 where
  pub recipient : Recipient
  pub routed : Bool
  pub goes : Bool

-- by which row a RCPT is refused: its path is routed, or the server's table has no hop for it
abbrev pub refusal_row : Bool → Row
refusal_row routed = if routed then row.RoutedAddress else row.NoRoute

-- what a RCPT is answered
abbrev pub row_of_rcpt : Bool → Bool → Row
row_of_rcpt routed goes = if goes then row.RecipientOk else refusal_row routed

-- the server's envelope after it
abbrev pub with_tried : Envelope → Tried → Envelope
with_tried envelope tried =
    if tried.goes then record envelope { recipients = envelope.recipients ++ tried.recipient ∷ [] } else envelope

-- the server's envelope after the RCPTs of all of these
abbrev pub envelope_after : Envelope → List Tried → Envelope
envelope_after envelope [] = envelope
envelope_after envelope (tried ∷ more) = envelope_after (with_tried envelope tried) more

-- QUIT closes
abbrev pub quit_step : Step
quit_step = step_of quit_line (Replies row.Closing Closed)

-- the outcome of the content, as mail data and as one last chunk
abbrev pub course_of_mail_data : Setup → Client → Envelope → List ℕ → Course
course_of_mail_data setup client envelope text =
    unless_refused setup.bare_newlines (course_of_text setup.max_content client envelope text)

abbrev pub course_of_last_chunk : Setup → Client → Envelope → List ℕ → Course
course_of_last_chunk setup client envelope text =
    unless_refused setup.bare_newlines (course_of_chunks setup.max_content client envelope text true)

-- the content, and QUIT: mail data after DATA, or one last chunk
abbrev pub content_steps : Setup → Client → Delivery → Envelope → List Step
content_steps setup client delivery envelope =
    if ends_in_line_end delivery.text
    then step_of data_line (Replies row.StartMailInput (Receiving client envelope))
    ∷ step_of delivery.dot_text (course_of_mail_data setup client envelope delivery.text) ∷ quit_step ∷ []
    else step_of (last_chunk delivery.text) (course_of_last_chunk setup client envelope delivery.text) ∷ quit_step ∷ []

-- what follows the RCPTs: the content where a recipient was accepted
abbrev pub last_steps : Setup → Client → Delivery → Envelope → List Step
last_steps setup client delivery envelope =
    if nat_le 1 (length envelope.recipients) then content_steps setup client delivery envelope else quit_step ∷ []

-- the RCPT of a place
abbrev pub rcpt_step : Client → Envelope → Tried → Step
rcpt_step client envelope tried =
    step_of (rcpt_line true tried.recipient)
    (Replies (row_of_rcpt tried.routed tried.goes) (Command (Open client (with_tried envelope tried))))

-- the RCPTs of these places, and what follows them
abbrev pub rcpt_steps : Setup → Client → Delivery → Envelope → List Tried → List Step
rcpt_steps setup client delivery envelope [] = last_steps setup client delivery envelope
rcpt_steps setup client delivery envelope (tried ∷ more) =
    rcpt_step client envelope tried ∷ rcpt_steps setup client delivery (with_tried envelope tried) more

-- MAIL's values, and no recipient yet
abbrev pub opened_of : Envelope → Envelope
opened_of envelope = record envelope { recipients = [] }

-- the client as the server knows it: by EHLO and our host's name
abbrev pub client_in : Delivery → Client
client_in delivery = client_of delivery.host Esmtp

-- EHLO, MAIL, the RCPTs, the content, QUIT
abbrev pub script_of : Setup → Delivery → List Tried → List Step
script_of setup delivery tried =
    step_of (ehlo_line delivery.host) (Replies row.Extensions (Command (Greeted (client_in delivery))))
    ∷ step_of (mail_line true delivery.envelope)
    (Replies row.SenderOk (Command (Open (client_in delivery) (opened_of delivery.envelope))))
    ∷ rcpt_steps setup (client_in delivery) delivery (opened_of delivery.envelope) tried

-- the server says so of the place: its path is refused, or it goes where the table has a hop
pub record IsTried (setup : Setup) (tried : Tried) : Type 0 where
  pub valid : IsRecipient tried.recipient
  pub rcpt : RcptSaid
  pub reads : ReadsRcpt (rcpt_text tried.recipient) (Ok rcpt)
  pub same : recipient_from rcpt ≡ tried.recipient
  pub routed : refuses_path setup.routed_paths rcpt.path ≡ tried.routed
  pub goes : (if tried.routed then false else is_some (hop_of setup.routes rcpt.path)) ≡ tried.goes

-- the places of these recipients are those that are tried, in order
abbrev pub AreTried : Setup → List Recipient → List ℕ → List Tried → Type 0
AreTried setup recipients [] [] = Unit {0}
AreTried setup recipients [] (tried ∷ more) = ⊥
AreTried setup recipients (place ∷ places) [] = ⊥
AreTried setup recipients (place ∷ places) (tried ∷ more) =
    (slice_get recipients place ≡ Some tried.recipient) × IsTried setup tried × AreTried setup recipients places more

-- Each place of a valid envelope is tried as the server says.
abbrev pub EachPlaceIsTried : Type 0
EachPlaceIsTried =
    (setup : Setup) (envelope : Envelope) (places : List ℕ) → IsEnvelope envelope
    → AreWithin places envelope.recipients
    → (tried : List Tried) × AreTried setup envelope.recipients places tried

-- The script is what the server makes of the commands.
abbrev pub ScriptIsServers : Type 0
ScriptIsServers =
    (setup : Setup) (delivery : Delivery) (tried : List Tried) → IsDelivery delivery
    → AreTried setup delivery.envelope.recipients delivery.places tried
    → IsScript setup start (script_of setup delivery tried)

-- A client of the delivery writes the script.
abbrev pub ClientWrites : Type 0
ClientWrites =
    (setup : Setup) (delivery : Delivery) (tried : List Tried) → IsDelivery delivery
    → AreTried setup delivery.envelope.recipients delivery.places tried
    → Writes setup.host (reply_of setup.host row.Greeting) (λ replies. (progress delivery replies).commands)
    (script_of setup delivery tried)

-- each RCPT's reply is by the table
abbrev pub AreRcpts : List ℕ → List Tried → List Reply → Type 0
AreRcpts host [] [] = Unit {0}
AreRcpts host [] (reply ∷ rcpts) = ⊥
AreRcpts host (tried ∷ more) [] = ⊥
AreRcpts host (tried ∷ more) (reply ∷ rcpts) =
    (reply ≡ reply_of host (row_of_rcpt tried.routed tried.goes)) × AreRcpts host more rcpts

-- Two relays that meet: both ends by their histories, each of which has read a prefix of what the other wrote.
use Rattle.std.specs.Prelude.{◌≡◌, ◌≢◌, ◌⊎◌, ◌<◌, ℕ, nat_le, Bool, true, List, [], ◌∷◌, ◌++◌, length, map, slice_get}
use Rattle.std.specs.Prelude.{option_to_list, if◌then◌else◌, Option, None, Some}
use Rattle.std.specs.List.{AllByRecursion, flat_map}
use Rattle.relay_octets.specs.Beginning.{Begins}
use Rattle.relay_lines.specs.Reply.{Reply, IsReply, reply_text}
use Rattle.relay_lines.specs.ReplyReading.{CutsReplies, HasFault}
use Rattle.relay_lines.specs.declared.reply_reader.ReplyFault.{ReplyFault}
use Rattle.relay_envelope.specs.declared.envelope.Envelope.{Envelope}
use Rattle.relay_envelope.specs.declared.envelope.Recipient.{Recipient}
use Rattle.relay_envelope.specs.HostName.{IsHostName}
use Rattle.relay_trace.specs.HeaderSection.{received_count_of}
use Rattle.relay_server.specs.declared.reply_table.Row.TheVariants.{Greeting, Extensions, SenderOk}
use Rattle.relay_server.specs.declared.offer.Answer.{Answer}
use Rattle.relay_server.specs.declared.offer.Answer.TheVariants.{Queued, Full}
use Rattle.relay_server.specs.Dialogue.{IsDialogue, Offered, Said, Turn, offered_of, offered_by, read_by}
use Rattle.relay_server.specs.DialogueLaws.{AreNumbered}
use Rattle.relay_server.specs.Reply.{reply_of}
use Rattle.relay_server.specs.ReplyTable.{is_refused_by}
use Rattle.relay_server.specs.Setup.{Setup}
use Rattle.relay_server.specs.State.{State}
use Rattle.relay_book.specs.declared.change.Verdict.{Verdict}
use Rattle.relay_book.specs.declared.change.Verdict.TheVariants.{Taken}
use Rattle.relay_course.specs.VerdictTable.{refusal}
use Rattle.relay_course.specs.Progress.{Delivery, progress}
use Rattle.relay_course.specs.Course.{joined}
use Rattle.relay_course.specs.Laws.{IsDelivery, accepted_places}
use Rattle.relay_course.specs.RelayLaws.{opening_replies}
use Rattle.relay_meeting.specs.Meeting.{Meets, replies_by}
use Rattle.relay_meeting.specs.Script.{AreRcpts, AreTried, Tried, client_in, envelope_after, opened_of, refusal_row}
use Rattle.relay_meeting.specs.Script.{script_of}

-- MAIL's values, and the accepted recipients in order
abbrev pub child_envelope : Delivery → List Tried → Envelope
child_envelope delivery tried = envelope_after (opened_of delivery.envelope) tried

-- what the server may offer of the delivery: the text once, with that envelope; or nothing, where no recipient is
-- accepted, the text is too large, it has come in a circle, or the rule refuses it
abbrev pub child_of : Setup → Delivery → List Tried → List Offered
child_of setup delivery tried =
    if nat_le 1 (length (child_envelope delivery tried).recipients)
    then (if nat_le (length delivery.text) setup.max_content
    then (if nat_le 100 (received_count_of delivery.text) then []
    else (if is_refused_by setup.bare_newlines delivery.text then []
    else offered_of (client_in delivery) (child_envelope delivery tried) delivery.text ∷ []))
    else [])
    else []

-- what a server end wrote: the output of its dialogue, and after that the reply with which it closed, if it did so
-- unasked
abbrev pub output_with : List ℕ → Option Reply → List ℕ
output_with output None = output
output_with output (Some reply) = output ++ reply_text reply

-- a server that closes unasked has answered each offer, and says so by a reply of code 421 (RFC 5321, section 3.8)
abbrev pub MayClose : Said → Option Reply → Type 0
MayClose said None = Unit {0}
MayClose said (Some reply) = IsReply reply × (reply.code ≡ 421) × (length said.answers ≡ length said.offers)

-- a server end with a dialogue, and perhaps a reply with which it closed unasked, and a client end with a course of
-- this delivery, which has read these replies and a rest: each has read a prefix of what the other wrote
pub record AreJoined (setup : Setup) (delivery : Delivery) (said : Said) (closing : Option Reply)
    (input output : List ℕ) (replies : List Reply) (rest : List ℕ)
    : Type 0 where
  pub dialogue : IsDialogue setup said
  pub numbered : AreNumbered said.answers
  pub closes : MayClose said closing
  pub host : IsHostName setup.host
  pub cut : CutsReplies input replies rest
  pub written : output ≡ joined (progress delivery replies).commands
  pub up : Begins said.input output
  pub down : Begins input (output_with said.output closing)

-- what the two have said: turns of the script, of which the client has read a prefix of the replies, and after all of
-- these of the one with which the server closed, and no fault; and the text was offered at most once
pub record HaveMet (setup : Setup) (delivery : Delivery) (tried : List Tried) (said : Said) (closing : Option Reply)
    (replies : List Reply)
    (rest : List ℕ) : Type 0 where
  pub turns : List Turn
  pub state : State
  pub meets : Meets setup (script_of setup delivery tried) turns state
  pub read : Begins replies (reply_of setup.host Greeting ∷ (replies_by turns ++ option_to_list closing))
  pub sound : (fault : ReplyFault) → ¬ HasFault rest fault
  pub unread : List ℕ
  pub input : said.input ≡ read_by turns ++ unread
  pub offered : said.offers ≡ offered_by turns
  pub children : Begins said.offers (child_of setup delivery tried)

-- Two relays meet so.
abbrev pub TwoRelaysMeet : Type 0
TwoRelaysMeet =
    (setup : Setup) (delivery : Delivery) (tried : List Tried) (said : Said) (closing : Option Reply)
    (input output : List ℕ) (replies : List Reply) (rest : List ℕ)
    → IsDelivery delivery → AreTried setup delivery.envelope.recipients delivery.places tried
    → AreJoined setup delivery said closing input output replies rest
    → HaveMet setup delivery tried said closing replies rest

-- the verdict of a place: where the server doesn't take its recipient, it is refused, and else it has the last verdict
abbrev pub verdict_at : List ℕ → Verdict → Tried → Verdict
verdict_at host last tried = if tried.goes then last else refusal (reply_of host (refusal_row tried.routed))

-- Taken, by a server that offers DSN, exactly if the offer was answered by a number
abbrev pub Tells : Verdict → List Answer → Type 0
Tells last answers =
    ((last ≡ Taken true) × ((number : ℕ) × (answers ≡ Queued number ∷ [])))
    ⊎ (((dsn : Bool) → last ≢ Taken dsn) × ((answers ≡ []) ⊎ (answers ≡ Full ∷ [])))

-- an attempt that its replies ended has these verdicts
pub record HaveEnded (setup : Setup) (delivery : Delivery) (tried : List Tried) (said : Said) (verdicts : List Verdict)
    : Type 0 where
  pub last : Verdict
  pub verdicts_are : verdicts ≡ map (verdict_at setup.host last) tried
  pub tells : Tells last said.answers

-- an attempt that was ended by the reply with which the server closed: nothing was offered, and no place is Taken
pub record IsCutShort (said : Said) (closing : Option Reply) (verdicts : List Verdict) : Type 0 where
  pub reply : Reply
  pub closed : closing ≡ Some reply
  pub none : said.offers ≡ []
  pub untaken : AllByRecursion (λ verdict. (dsn : Bool) → verdict ≢ Taken dsn) verdicts

-- An attempt at a relay ends so.
abbrev pub TwoRelaysEnd : Type 0
TwoRelaysEnd =
    (setup : Setup) (delivery : Delivery) (tried : List Tried) (said : Said) (closing : Option Reply)
    (input output : List ℕ) (replies : List Reply) (rest : List ℕ) (verdicts : List Verdict)
    → IsDelivery delivery → AreTried setup delivery.envelope.recipients delivery.places tried
    → AreJoined setup delivery said closing input output replies rest
    → length (progress delivery replies).answered ≡ length replies
    → (progress delivery replies).verdicts ≡ Some verdicts
    → HaveEnded setup delivery tried said verdicts ⊎ IsCutShort said closing verdicts

-- the client has read the replies to all RCPTs, each by the server's table, and those before them
pub record HaveReadRcpts (setup : Setup) (tried : List Tried) (replies : List Reply) : Type 0 where
  pub rcpts : List Reply
  pub later : List Reply
  pub replies_are : replies
      ≡ opening_replies (reply_of setup.host Greeting) (reply_of setup.host Extensions) (reply_of setup.host SenderOk)
      rcpts ++ later
  pub by_table : AreRcpts setup.host tried rcpts

-- Where there is an offer, the client has read them.
abbrev pub OfferHoldsItsPlaces : Type 0
OfferHoldsItsPlaces =
    (setup : Setup) (delivery : Delivery) (tried : List Tried) (said : Said) (closing : Option Reply)
    (input output : List ℕ) (replies : List Reply) (rest : List ℕ)
    → IsDelivery delivery → AreTried setup delivery.envelope.recipients delivery.places tried
    → AreJoined setup delivery said closing input output replies rest → 0 < length said.offers
    → HaveReadRcpts setup tried replies

-- the recipients of these places
abbrev pub recipients_at : List Recipient → List ℕ → List Recipient
recipients_at recipients places = flat_map (λ place. option_to_list (slice_get recipients place)) places

-- the one child of a delivery: MAIL's values, the recipients whose RCPTs the client knows as accepted, and the text
abbrev pub child_by : Delivery → List Reply → Offered
child_by delivery replies =
    offered_of (client_in delivery)
    (record delivery.envelope {
      recipients =
          recipients_at delivery.envelope.recipients (accepted_places (progress delivery replies).answered);
    })
    delivery.text

-- Where there is an offer, it is one, of the recipients whose RCPTs the client has read to be accepted, in order.
abbrev pub ChildHoldsItsPlaces : Type 0
ChildHoldsItsPlaces =
    (setup : Setup) (delivery : Delivery) (said : Said) (closing : Option Reply) (input output : List ℕ)
    (replies : List Reply) (rest : List ℕ)
    → IsDelivery delivery → AreJoined setup delivery said closing input output replies rest → 0 < length said.offers
    → said.offers ≡ child_by delivery replies ∷ []

-- all of it: each place is tried as the server's table says; what was said; what the client has read if there is an
-- offer, and that this is one; and how an attempt ends whose replies each answered something
pub record HaveTalked (setup : Setup) (delivery : Delivery) (said : Said) (closing : Option Reply)
    (replies : List Reply) (rest : List ℕ)
    : Type 0 where
  pub tried : List Tried
  pub are_tried : AreTried setup delivery.envelope.recipients delivery.places tried
  pub met : HaveMet setup delivery tried said closing replies rest
  pub held : 0 < length said.offers → HaveReadRcpts setup tried replies
  pub child : 0 < length said.offers → said.offers ≡ child_by delivery replies ∷ []
  pub ended : (verdicts : List Verdict) → length (progress delivery replies).answered ≡ length replies
      → (progress delivery replies).verdicts ≡ Some verdicts
      → HaveEnded setup delivery tried said verdicts ⊎ IsCutShort said closing verdicts

-- What two relays have said to each other: of a valid delivery all of it is so.
abbrev pub WhatRelaysSay : Type 0
WhatRelaysSay =
    (setup : Setup) (delivery : Delivery) (said : Said) (closing : Option Reply) (input output : List ℕ)
    (replies : List Reply) (rest : List ℕ)
    → IsDelivery delivery → AreJoined setup delivery said closing input output replies rest
    → HaveTalked setup delivery said closing replies rest

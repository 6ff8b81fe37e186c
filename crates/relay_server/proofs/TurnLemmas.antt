-- Turns: what a unit asks is one thing, and state, unit and answer fix the turn.
use Rattle.std.proofs.Common.{◌≡◌, ℕ, List, [], ◌∷◌, ◌++◌, length, Option, Some, Result, Ok, Err, inl, inr, sym, subst, ap, ◌∙◌, arith}
use Rattle.relay_body.specs.DotText.{ReadsDotText}
use Rattle.relay_body.proofs.Theorems.{one_content}
use Rattle.relay_lines.specs.Command as line
use Rattle.relay_lines.specs.Command.{reading_of}
use Rattle.relay_lines.specs.Reply.{Reply}
use Rattle.relay_lines.specs.declared.command.LineFault.{LineFault}
use Rattle.relay_envelope.specs.declared.envelope.Envelope.{Envelope}
use Rattle.relay_envelope.proofs.Theorems.{mail_is_one, rcpt_is_one}
use Rattle.relay_server.specs.declared.client.Client.{Client}
use Rattle.relay_server.specs.declared.offer.Answer.{Answer}
use Rattle.relay_server.specs.Dialogue.{Offered, Turn, Answers, Comes, ComesOfLine, ComesOfText, Takes, answers_in, offered_of, row_of_answer}
use Rattle.relay_server.specs.DialogueLaws.{RowIsFixed}
use Rattle.relay_server.specs.Reply.{reply_of}
use Rattle.relay_server.specs.ReplyTable.{Course, Replies, Offers, course_of, course_of_text, unless_refused}
use Rattle.relay_server.specs.Setup.{Setup}
use Rattle.relay_server.specs.State.{State, CommandState, Command, Receiving, Closed}
use Rattle.relay_server.specs.Unit.{Asked, Mail, Rcpt, Asks, AsksBy, IsUnit}
use Rattle.relay_server.proofs.UnitLemmas.{one_command_unit}

-- the reading of a line asks one thing
asks_by_one : (reading : Result line.Command LineFault) (octets : List ℕ) (one two : Asked) → AsksBy reading octets one → AsksBy reading octets two → one ≡ two
asks_by_one (Err fault) octets one two a b = a ∙ sym b
asks_by_one (Ok (line.Helo client)) octets one two a b = a ∙ sym b
asks_by_one (Ok (line.Ehlo client)) octets one two a b = a ∙ sym b
asks_by_one (Ok (line.Mail text)) octets one two a b =
    a.2 ∙ ap (λ read. Mail read) (mail_is_one text a.0 b.0 a.1 b.1) ∙ sym b.2
asks_by_one (Ok (line.Rcpt text)) octets one two a b =
    a.2 ∙ ap (λ read. Rcpt read) (rcpt_is_one text a.0 b.0 a.1 b.1) ∙ sym b.2
asks_by_one (Ok line.Data) octets one two a b = a ∙ sym b
asks_by_one (Ok (line.Bdat argument)) octets one two a b = a ∙ sym b
asks_by_one (Ok line.Rset) octets one two a b = a ∙ sym b
asks_by_one (Ok line.Noop) octets one two a b = a ∙ sym b
asks_by_one (Ok line.Vrfy) octets one two a b = a ∙ sym b
asks_by_one (Ok line.Help) octets one two a b = a ∙ sym b
asks_by_one (Ok line.Quit) octets one two a b = a ∙ sym b

-- a line asks one thing
asks_one : (text octets : List ℕ) (one two : Asked) → Asks text octets one → Asks text octets two → one ≡ two
asks_one text octets one two (inl a) (inl b) = a.1 ∙ sym b.1
asks_one text octets one two (inl a) (inr b) = absurd (omega arith)
asks_one text octets one two (inr a) (inl b) = absurd (omega arith)
asks_one text octets one two (inr a) (inr b) = asks_by_one (reading_of text) octets one two a.1 b.1

-- what has a course is a unit of its state
pub course_of_unit : (setup : Setup) (state : State) (unit : List ℕ) (course : Course) → Comes setup state unit course → IsUnit state unit
course_of_unit setup (Command state) unit course comes = (comes.text, comes.octets, comes.is_unit)
course_of_unit setup (Receiving client envelope) unit course comes = (comes.content, comes.reads)
course_of_unit setup Closed unit course comes = comes

-- what a turn reads is a unit of its state
pub asked_is_unit : (setup : Setup) (old : State) (turn : Turn) (new : State) → Answers setup old turn new → IsUnit old turn.asked
asked_is_unit setup old turn new is = course_of_unit setup old turn.asked is.course is.comes

-- a command line has one course
line_course : (setup : Setup) (state : CommandState) (unit other : List ℕ) (one two : Course) → ComesOfLine setup state unit one → ComesOfLine setup state other two → unit ≡ other → one ≡ two
line_course setup state unit other one two a b e =
    let same = one_command_unit unit other [] [] a.text a.octets b.text b.octets a.is_unit b.is_unit (ap (λ (u : List ℕ). u ++ []) e) in
    let here = subst (λ (o : List ℕ). Asks b.text o a.what) same.1 (subst (λ (t : List ℕ). Asks t a.octets a.what) same.0 a.asks) in
    a.course_is ∙ ap (λ w. course_of setup w state) (asks_one b.text b.octets a.what b.what here b.asks) ∙ sym b.course_is

-- a dot text has one course
text_course : (setup : Setup) (client : Client) (envelope : Envelope) (unit other : List ℕ) (one two : Course) → ComesOfText setup client envelope unit one → ComesOfText setup client envelope other two → unit ≡ other → one ≡ two
text_course setup client envelope unit other one two a b e =
    let same = one_content other a.content b.content (subst (λ (u : List ℕ). ReadsDotText u a.content) e a.reads) b.reads in
    a.course_is
    ∙ ap (λ (content : List ℕ). unless_refused setup.bare_newlines (course_of_text setup.max_content client envelope content)) same
    ∙ sym b.course_is

-- a unit has one course
pub course_is_one : (setup : Setup) (state : State) (unit other : List ℕ) (one two : Course) → Comes setup state unit one → Comes setup state other two → unit ≡ other → one ≡ two
course_is_one setup (Command state) unit other one two a b e = line_course setup state unit other one two a b e
course_is_one setup (Receiving client envelope) unit other one two a b e =
    text_course setup client envelope unit other one two a b e
course_is_one setup Closed unit other one two a b e = absurd a

abbrev turn_of : List ℕ → Reply → Option (Offered × Answer) → Turn
turn_of asked reply offer = record { asked = asked; reply = reply; offer = offer }

-- turns are equal by their parts
turn_by_parts : (turn other : Turn) → turn.asked ≡ other.asked → turn.reply ≡ other.reply → turn.offer ≡ other.offer → turn ≡ other
turn_by_parts turn other asked reply offer =
    ap (λ a. turn_of a turn.reply turn.offer) asked
    ∙ ap (λ r. turn_of other.asked r turn.offer) reply
    ∙ ap (λ o. turn_of other.asked other.reply o) offer

-- of a course the answer fixes the turn
taken_is_fixed : (host : List ℕ) (course : Course) (new next : State) (turn other : Turn) → Takes host course turn new → Takes host course other next → turn.asked ≡ other.asked → answers_in turn.offer ≡ answers_in other.offer → (turn ≡ other) × (new ≡ next)
taken_is_fixed host (Replies row after) new next turn other one two e given =
    (turn_by_parts turn other e (one.0 ∙ sym two.0) (one.1 ∙ sym two.1), one.2 ∙ sym two.2)
taken_is_fixed host (Offers client envelope content) new next turn other one two e given =
    let message = offered_of client envelope content in
    let heads : one.0 ∷ [] ≡ two.0 ∷ [] = ap answers_in (sym one.2) ∙ given ∙ ap answers_in two.2 in
    let same : one.0 ≡ two.0 = cc in (
      turn_by_parts turn other e (one.1 ∙ ap (λ answer. reply_of host (row_of_answer answer)) same ∙ sym two.1) (one.2 ∙ ap (λ answer. Some (message, answer)) same ∙ sym two.2),
      one.3 ∙ sym two.3,
    )

-- turns of one state and unit have one course
pub courses_meet : (setup : Setup) (old new next : State) (turn other : Turn) → (one : Answers setup old turn new) → (two : Answers setup old other next) → turn.asked ≡ other.asked → Takes setup.host two.course turn new
courses_meet setup old new next turn other one two e =
    subst (λ (course : Course). Takes setup.host course turn new) (course_is_one setup old turn.asked other.asked one.course two.course one.comes two.comes e) one.takes

pub row_is_fixed : RowIsFixed
row_is_fixed setup old new next turn other one two e given =
    taken_is_fixed setup.host two.course new next turn other (courses_meet setup old new next turn other one two e) two.takes e given

-- a course has an answer or none, whatever it is
taken_as_many : (host : List ℕ) (course : Course) (new next : State) (turn other : Turn) → Takes host course turn new → Takes host course other next → length (answers_in turn.offer) ≡ length (answers_in other.offer)
taken_as_many host (Replies row after) new next turn other one two =
    ap (λ o. length (answers_in o)) (one.1 ∙ sym two.1)
taken_as_many host (Offers client envelope content) new next turn other one two =
    ap (λ o. length (answers_in o)) one.2 ∙ sym (ap (λ o. length (answers_in o)) two.2)

-- turns of one state and unit have as many answers
pub as_many_answers : (setup : Setup) (old new next : State) (turn other : Turn) → Answers setup old turn new → Answers setup old other next → turn.asked ≡ other.asked → length (answers_in turn.offer) ≡ length (answers_in other.offer)
as_many_answers setup old new next turn other one two e =
    taken_as_many setup.host two.course new next turn other (courses_meet setup old new next turn other one two e) two.takes

-- a turn whose unit is offered has the answer to the offer
pub record AnswersOffer (setup : Setup) (client : Client) (envelope : Envelope) (content : List ℕ) (turn : Turn) : Type 0 where
  pub given : Answer
  pub reply : turn.reply ≡ reply_of setup.host (row_of_answer given)
  pub offer : turn.offer ≡ Some (offered_of client envelope content, given)

pub unit_is_offered : (setup : Setup) (old new : State) (turn : Turn) (unit : List ℕ) (client : Client) (envelope : Envelope) (content : List ℕ) → Answers setup old turn new → turn.asked ≡ unit → Comes setup old unit (Offers client envelope content) → AnswersOffer setup client envelope content turn
unit_is_offered setup old new turn unit client envelope content answers e comes =
    let takes = subst (λ (course : Course). Takes setup.host course turn new) (course_is_one setup old turn.asked unit answers.course (Offers client envelope content) answers.comes comes e) answers.takes in
    record { given = takes.0; reply = takes.1; offer = takes.2 }

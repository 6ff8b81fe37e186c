-- The dialogue of a server with a client (RFC 5321, sections 2.3.8, 3 and 4; RFC 2920; RFC 3030,
-- section 2): the units of the input, each with its one reply, and the offers of mail. The units
-- decide, and not the pieces that they come in.
use Rattle.std.specs.Prelude.{◌≡◌, ◌⊎◌, ℕ, List, [], ◌∷◌, ◌++◌, Option, Some, None}
use Rattle.std.specs.List.{flat_map}
use Rattle.relay_body.specs.DotText.{ReadsDotText}
use Rattle.relay_lines.specs.Reply.{Reply, reply_text}
use Rattle.relay_envelope.specs.declared.envelope.Envelope.{Envelope}
use Rattle.relay_server.specs.declared.client.Client.{Client}
use Rattle.relay_server.specs.declared.offer.Answer.{Answer}
use Rattle.relay_server.specs.declared.offer.Answer.TheVariants as answer
use Rattle.relay_server.specs.declared.reply_table.Row.{Row}
use Rattle.relay_server.specs.declared.reply_table.Row.TheVariants.{Greeting, Queued, SpoolFull}
use Rattle.relay_server.specs.Reply.{reply_of}
use Rattle.relay_server.specs.ReplyTable.{Course, Replies, Offers, course_of, course_of_text, unless_refused}
use Rattle.relay_server.specs.Setup.{Setup}
use Rattle.relay_server.specs.State.{CommandState, Greeted, State, Command, Receiving, Closed, start}
use Rattle.relay_server.specs.Unit.{Asked, Asks, HasNoUnit, IsCommandUnit}

-- a message that is offered for keeping: who offers it, the envelope, and the content
pub record Offered : Type 0 where
  pub client : Client
  pub envelope : Envelope
  pub content : List ℕ

-- one unit, its one reply, and at an offer the offer with its answer
pub record Turn : Type 0 where
  pub asked : List ℕ
  pub reply : Reply
  pub offer : Option (Offered × Answer)

-- the row that tells the client what became of an offer
abbrev pub row_of_answer : Answer → Row
row_of_answer (answer.Queued number) = Queued number
row_of_answer answer.Full = SpoolFull

-- the course of a command line, with the octets of its chunk, is that of the table
pub record ComesOfLine (setup : Setup) (state : CommandState) (unit : List ℕ) (course : Course) : Type 0 where
  pub text : List ℕ
  pub octets : List ℕ
  pub what : Asked
  pub is_unit : IsCommandUnit unit text octets
  pub asks : Asks text octets what
  pub course_is : course ≡ course_of setup what state

-- the course of a dot text is that of its content
pub record ComesOfText (setup : Setup) (client : Client) (envelope : Envelope) (unit : List ℕ)
    (course : Course) : Type 0 where
  pub content : List ℕ
  pub reads : ReadsDotText unit content
  pub course_is :
      course ≡ unless_refused setup.bare_newlines (course_of_text setup.max_content client envelope content)

-- in this state this is the course of the unit
abbrev pub Comes : Setup → State → List ℕ → Course → Type 0
Comes setup (Command state) unit course = ComesOfLine setup state unit course
Comes setup (Receiving client envelope) unit course = ComesOfText setup client envelope unit course
Comes setup Closed unit course = ⊥

-- what was offered
abbrev pub offered_of : Client → Envelope → List ℕ → Offered
offered_of client envelope content = record { client = client; envelope = envelope; content = content }

-- the turn has the reply of its course, and leads to the state after it; an offer is replied to by
-- its answer
abbrev pub Takes : List ℕ → Course → Turn → State → Type 0
Takes host (Replies row next) turn new = (turn.reply ≡ reply_of host row) × (turn.offer ≡ None) × (new ≡ next)
Takes host (Offers client envelope content) turn new =
    (given : Answer) × (turn.reply ≡ reply_of host (row_of_answer given))
    × (turn.offer ≡ Some (offered_of client envelope content, given)) × (new ≡ Command (Greeted client))

-- from the old state the turn leads to the new
pub record Answers (setup : Setup) (old : State) (turn : Turn) (new : State) : Type 0 where
  pub course : Course
  pub comes : Comes setup old turn.asked course
  pub takes : Takes setup.host course turn new

-- the turns lead from the old state to the new
abbrev pub Turns : Setup → State → List Turn → State → Type 0
Turns setup old [] new = old ≡ new
Turns setup old (turn ∷ turns) new = (mid : State) × Answers setup old turn mid × Turns setup mid turns new

-- the octets that the turns have read, and those of their replies
abbrev pub read_by : List Turn → List ℕ
read_by turns = flat_map (λ turn. turn.asked) turns

abbrev pub written_by : List Turn → List ℕ
written_by turns = flat_map (λ turn. reply_text turn.reply) turns

-- the offers of the turns, and their answers
abbrev pub offers_in : Option (Offered × Answer) → List Offered
offers_in None = []
offers_in (Some offer) = offer.0 ∷ []

abbrev pub answers_in : Option (Offered × Answer) → List Answer
answers_in None = []
answers_in (Some offer) = offer.1 ∷ []

abbrev pub offered_by : List Turn → List Offered
offered_by turns = flat_map (λ turn. offers_in turn.offer) turns

abbrev pub answered_by : List Turn → List Answer
answered_by turns = flat_map (λ turn. answers_in turn.offer) turns

-- what was said so far: the octets read, the answers to offers, the octets written, and the offers
pub record Said : Type 0 where
  pub input : List ℕ
  pub answers : List Answer
  pub output : List ℕ
  pub offers : List Offered

-- nothing said yet but the greeting
abbrev pub greeted_only : List ℕ → Said
greeted_only host =
    record { input = []; answers = []; output = reply_text (reply_of host Greeting); offers = [] }

-- said, and then this
abbrev pub more_said : Said → List ℕ → List Answer → List ℕ → List Offered → Said
more_said said input answers output offers = record {
  input = said.input ++ input;
  answers = said.answers ++ answers;
  output = said.output ++ output;
  offers = said.offers ++ offers;
}

-- what was said, and octets after it that nobody reads
abbrev pub unread_after : Said → List ℕ → Said
unread_after said octets = record said { input = said.input ++ octets }

-- what is left of the input is a unit whose offer is unanswered, and is after the others
pub record IsUnanswered (setup : Setup) (state : State) (rest : List ℕ)
    (unanswered : List Offered) : Type 0 where
  pub client : Client
  pub envelope : Envelope
  pub content : List ℕ
  pub comes : Comes setup state rest (Offers client envelope content)
  pub offer_is : unanswered ≡ offered_of client envelope content ∷ []

-- what is left of the input: no whole unit, or one whose offer is unanswered
abbrev pub IsLeft : Setup → State → List ℕ → List Offered → Type 0
IsLeft setup state rest unanswered =
    (HasNoUnit state rest × (unanswered ≡ [])) ⊎ IsUnanswered setup state rest unanswered

-- What was said is a dialogue: the input is whole units and a rest, the output the greeting and the units' replies in
-- order, and the k-th offer is replied to by the k-th answer; if there is none yet, the input ends with its unit.
pub record IsDialogue (setup : Setup) (said : Said) : Type 0 where
  pub turns : List Turn
  pub state : State
  pub rest : List ℕ
  pub unanswered : List Offered
  pub runs : Turns setup start turns state
  pub input : said.input ≡ read_by turns ++ rest
  pub output : said.output ≡ reply_text (reply_of setup.host Greeting) ++ written_by turns
  pub answers : said.answers ≡ answered_by turns
  pub offers : said.offers ≡ offered_by turns ++ unanswered
  pub left : IsLeft setup state rest unanswered

-- Custody of each recipient (RFC 5321, section 6.1), by the list of changes. A change's number is its place
-- in the list, from 1.
use Rattle.std.specs.Prelude.{◌≡◌, ◌≢◌, ◌⊎◌, ◌↔◌, ℕ, zero, suc, ◌<◌, List, [], ◌∷◌, ◌++◌, length, slice_get, Option}
use Rattle.std.specs.Prelude.{None, Some, if◌then◌else◌}
use Rattle.std.specs.Option.{option_and_then, option_map_or}
use Rattle.std.specs.List.{Contains}
use Rattle.relay_book.specs.declared.change.Accept.{Accept as AcceptFields}
use Rattle.relay_book.specs.declared.change.Outcome.{Outcome as OutcomeFields}
use Rattle.relay_book.specs.declared.change.Ruling.{Ruling}
use Rattle.relay_book.specs.declared.change.Verdict.{Verdict}
use Rattle.relay_book.specs.declared.change.Change.{Change}
use Rattle.relay_book.specs.declared.change.Change.TheVariants.{Accept, Outcome}
use Rattle.relay_book.specs.declared.change.Withdrawal.{Withdrawal}
use Rattle.relay_book.specs.declared.fate.Way.{Way}
use Rattle.relay_book.specs.declared.fate.Way.TheVariants.{ByTransfer, ByEnd, ByWithdrawal}
use Rattle.relay_book.specs.declared.fate.PlaceStep.{PlaceStep}
use Rattle.relay_book.specs.declared.fate.PlaceStep.TheVariants as made
use Rattle.relay_book.specs.declared.version.Version.{Version}
use Rattle.relay_book.specs.declared.due_report.DueReport.{DueReport}
use Rattle.relay_book.specs.DueReport.{fate_of, way_of}
use Rattle.relay_book.specs.Queue.{Queue, report_of, FitsQueue, Fitting, due_report_at, queue_of, held_of, message_of}
use Rattle.relay_book.specs.Queue.{tells_delay}
use Rattle.relay_book.specs.Record.{IsAccept}
use Rattle.relay_book.specs.declared.message.Message.{Message}

abbrev pub change_at : List Change → ℕ → Option Change
change_at changes zero = None
change_at changes (suc n) = slice_get changes n

-- the accept that an accept is
abbrev pub own_accept : Change → Option AcceptFields
own_accept (Accept accept) = Some accept
own_accept (Outcome outcome) = None

-- the report of an outcome for a message, if it has one
abbrev pub report_for : OutcomeFields → List ℕ → Option AcceptFields → Option AcceptFields
report_for outcome [] message = None
report_for outcome (octet ∷ report) None = None
report_for outcome (octet ∷ report) (Some accept) = Some (report_of accept outcome)

-- the message that a change made: its own, or the report of an outcome
abbrev pub made_by : List Change → Option Change → Option AcceptFields
made_by changes None = None
made_by changes (Some (Accept accept)) = Some accept
made_by changes (Some (Outcome outcome)) =
    report_for outcome outcome.report (option_and_then own_accept (change_at changes outcome.message))

-- the message of a number, as it was accepted
abbrev pub message_at : List Change → ℕ → Option AcceptFields
message_at changes number = made_by changes (change_at changes number)

-- the place was added: its message has this many recipients
abbrev pub Added : List Change → ℕ → ℕ → Type 0
Added changes number place =
    (accept : AcceptFields) × (message_at changes number ≡ Some accept)
    × (place < length accept.envelope.recipients)

-- what leaves of a message by the verdicts of an outcome, and how, in order
abbrev pub leaving_by : AcceptFields → ℕ → List Ruling → List (ℕ × Way)
leaving_by accept at [] = []
leaving_by accept at (ruling ∷ rulings) =
    option_map_or (λ way. (ruling.place, way) ∷ []) (way_of (fate_of accept.at at ruling.verdict)) []
    ++ leaving_by accept at rulings

-- what leaves by a change, and how
abbrev pub leaving : List Change → Change → List (ℕ × Way)
leaving changes (Accept accept) = []
leaving changes (Outcome outcome) =
    option_map_or (λ accept. leaving_by accept outcome.at outcome.rulings)
    (message_at changes outcome.message) []

-- what leaves of a queue by a change, and how
abbrev pub leaving_of : Queue → Change → List (ℕ × Way)
leaving_of queue (Accept accept) = []
leaving_of queue (Outcome outcome) =
    option_map_or (λ message. leaving_by message.accept outcome.at outcome.rulings)
    (message_of queue.messages outcome.message) []

-- what is told of a place, by how it leaves, if it does, and by the report that was due: that it leaves, or that it is
-- reported as delayed, and stays held
abbrev pub step_of : Option Way → Option DueReport → Option PlaceStep
step_of (Some way) due = Some (made.Left way)
step_of None due = if tells_delay due then Some made.Delayed else None

-- what a verdict makes of a place of a message
abbrev pub place_step : Version → Message → ℕ → Ruling → Option PlaceStep
place_step version message at ruling =
    step_of (way_of (fate_of message.accept.at at ruling.verdict)) (due_report_at version message at ruling)

-- what the verdicts of an outcome make of the places of a message, in order
abbrev pub place_steps_by : Version → Message → ℕ → List Ruling → List (ℕ × PlaceStep)
place_steps_by version message at [] = []
place_steps_by version message at (ruling ∷ rulings) =
    option_map_or (λ one. (ruling.place, one) ∷ []) (place_step version message at ruling) []
    ++ place_steps_by version message at rulings

-- what a change makes of places of a queue: each that leaves, and each that is reported as delayed, in order
abbrev pub place_steps : Queue → Change → List (ℕ × PlaceStep)
place_steps queue (Accept accept) = []
place_steps queue (Outcome outcome) =
    option_map_or (λ message. place_steps_by outcome.version message outcome.at outcome.rulings)
    (message_of queue.messages outcome.message) []

-- of these, what leaves
abbrev pub if_left : ℕ → PlaceStep → List (ℕ × Way)
if_left place (made.Left way) = (place, way) ∷ []
if_left place made.Delayed = []

abbrev pub left_among : List (ℕ × PlaceStep) → List (ℕ × Way)
left_among [] = []
left_among (one ∷ steps) = if_left one.0 one.1 ++ left_among steps

-- Of what a change makes of places of a queue, what leaves is what leaves of the queue.
abbrev pub StepsLeave : Type 0
StepsLeave = (queue : Queue) (change : Change) → left_among (place_steps queue change) ≡ leaving_of queue change

-- the message that a change rules on
abbrev pub ruled_message : Change → Option ℕ
ruled_message (Accept accept) = None
ruled_message (Outcome outcome) = Some outcome.message

-- the place left by this change in this way
pub record LeavesAt (changes : List Change) (at number place : ℕ) (way : Way) : Type 0 where
  pub accept : AcceptFields
  pub outcome : OutcomeFields
  pub verdict : Verdict
  pub message : message_at changes number ≡ Some accept
  pub change : change_at changes at ≡ Some (Outcome outcome)
  pub its_message : outcome.message ≡ number
  pub ruling : Contains outcome.rulings (record { place = place; verdict = verdict })
  pub leaves : way_of (fate_of accept.at outcome.at verdict) ≡ Some way

abbrev pub Left : List Change → ℕ → ℕ → Way → Type 0
Left changes number place way = (at : ℕ) × LeavesAt changes at number place way

abbrev pub Transferred : List Change → ℕ → ℕ → Type 0
Transferred changes number place = Left changes number place ByTransfer

abbrev pub Ended : List Change → ℕ → ℕ → Type 0
Ended changes number place = Left changes number place ByEnd

-- the postmaster has ended the place: it was returned, or discarded
abbrev pub Withdrawn : List Change → ℕ → ℕ → Type 0
Withdrawn changes number place = (withdrawal : Withdrawal) × Left changes number place (ByWithdrawal withdrawal)

abbrev pub Held : List Change → ℕ → ℕ → Type 0
Held changes number place =
    Added changes number place × (Transferred changes number place → ⊥) × (Ended changes number place → ⊥)
    × (Withdrawn changes number place → ⊥)

-- The fold holds what is held.
abbrev pub FoldHolds : Type 0
FoldHolds =
    (changes : List Change) → Fitting changes → (number place : ℕ)
    → Contains (held_of (queue_of changes)) (number, place) ↔ Held changes number place

-- exactly one of four
pub data IsOneOf (a b c d : Type 0) : Type 0 where
  First : a → (b → ⊥) → (c → ⊥) → (d → ⊥) → IsOneOf a b c d
  Second : (a → ⊥) → b → (c → ⊥) → (d → ⊥) → IsOneOf a b c d
  Third : (a → ⊥) → (b → ⊥) → c → (d → ⊥) → IsOneOf a b c d
  Fourth : (a → ⊥) → (b → ⊥) → (c → ⊥) → d → IsOneOf a b c d

-- Each added place is held, transferred, ended or withdrawn, and only one of these.
abbrev pub ExactlyOne : Type 0
ExactlyOne =
    (changes : List Change) → Fitting changes → (number place : ℕ) → Added changes number place
    → IsOneOf (Held changes number place) (Transferred changes number place) (Ended changes number place)
    (Withdrawn changes number place)

-- the place leaves by the last change
abbrev pub Leaving : List Change → Change → ℕ → ℕ → Type 0
Leaving changes change number place =
    (way : Way) × LeavesAt (changes ++ change ∷ []) (suc (length changes)) number place way

-- What leaves of the queue of a list leaves by the list.
abbrev pub QueueLeaves : Type 0
QueueLeaves =
    (changes : List Change) (change : Change) → Fitting changes → FitsQueue (queue_of changes) change
    → leaving_of (queue_of changes) change ≡ leaving changes change

-- A place leaves by the last change exactly if that rules on its message, and lists the place and its way.
abbrev pub LeavingIsListed : Type 0
LeavingIsListed =
    (changes : List Change) (change : Change) → Fitting (changes ++ change ∷ [])
    → (number place : ℕ) (way : Way)
    → LeavesAt (changes ++ change ∷ []) (suc (length changes)) number place way
    ↔ ((ruled_message change ≡ Some number) × Contains {X = ℕ × Way} (leaving changes change) (place, way))

-- the place is new with the last change
abbrev pub IsNew : List Change → Change → ℕ → ℕ → Type 0
IsNew changes change number place =
    (number ≡ suc (length changes)) × Added (changes ++ change ∷ []) number place

-- One change more takes what leaves, and adds what is new.
abbrev pub OneMoreHolds : Type 0
OneMoreHolds =
    (changes : List Change) (change : Change) → Fitting (changes ++ change ∷ []) → (number place : ℕ)
    → Held (changes ++ change ∷ []) number place
    ↔ ((Held changes number place × (Leaving changes change number place → ⊥))
    ⊎ IsNew changes change number place)

-- what the queue knows of a message: its number, what was accepted under it, and a place for each recipient
pub record IsQueuedAs (changes : List Change) (number : ℕ) (message : Message) : Type 0 where
  pub number_is : message.number ≡ number
  pub accept_is : message_at changes number ≡ Some message.accept
  pub places : length message.places ≡ length message.accept.envelope.recipients

-- A queued message is the message of its number, with a place for each recipient.
abbrev pub FoldKnows : Type 0
FoldKnows =
    (changes : List Change) → Fitting changes → (number : ℕ) (message : Message)
    → message_of (queue_of changes).messages number ≡ Some message → IsQueuedAs changes number message

-- A message stays what it was accepted as, whatever changes follow.
abbrev pub MessageStays : Type 0
MessageStays =
    (changes : List Change) (change : Change) → Fitting (changes ++ change ∷ [])
    → (number : ℕ) (accept : AcceptFields)
    → message_at changes number ≡ Some accept → message_at (changes ++ change ∷ []) number ≡ Some accept

-- A report that an outcome queues may be stored as an accept.
abbrev pub ReportMayBeStored : Type 0
ReportMayBeStored =
    (changes : List Change) → Fitting changes → (outcome : OutcomeFields) (message : Message)
    → FitsQueue (queue_of changes) (Outcome outcome)
    → message_of (queue_of changes).messages outcome.message ≡ Some message
    → outcome.report ≢ [] → IsAccept (report_of message.accept outcome)

-- A queued message may be stored.
abbrev pub QueuedMayBeStored : Type 0
QueuedMayBeStored =
    (changes : List Change) → Fitting changes → (number : ℕ) (message : Message)
    → message_of (queue_of changes).messages number ≡ Some message → IsAccept message.accept

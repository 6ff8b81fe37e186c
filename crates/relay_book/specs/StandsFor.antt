-- What the bodies of a spool stand for: the snapshot of a queue, if the first is one, and the encodings of changes,
-- each of which fits what those before it leave. They stand for each list of changes that leaves the same queue: the
-- same next number, and the same messages with held places, their stored texts, held places, which of these were
-- reported as delayed, Later verdicts up to four, and due times. Snapshots and outcomes of all versions may stand in
-- one spool.
use Rattle.std.specs.Prelude.{◌≡◌, ◌⊎◌, ◌↔◌, ℕ, ◌<◌, ◌^◌, List, [], ◌∷◌, ◌++◌, length, map, Some}
use Rattle.relay_book.specs.declared.change.Change.{Change}
use Rattle.relay_book.specs.declared.message.Message.{Message}
use Rattle.relay_book.specs.Record.{IsChange, encode}
use Rattle.relay_book.specs.Queue.{Queue, FitsQueue, Fitting, empty_queue, message_of, queue_of, step}
use Rattle.relay_book.specs.Snapshot.{IsQueue, IsQueued, IsSnapshotOf, snapshot}

-- the body is the record of a change that fits the queue, and the change leaves this queue
pub record ReadsBody (queue : Queue) (body : List ℕ) (left : Queue) : Type 0 where
  pub change : Change
  pub fits : FitsQueue queue change
  pub body_is : body ≡ encode change
  pub left_is : left ≡ step queue change

-- it is the record of no such change
pub record ReadsNoBody (queue : Queue) (body : List ℕ) : Type 0 where
  pub none : (left : Queue) → ReadsBody queue body left → ⊥

-- the queue that is read from bodies, one after another
abbrev pub ReadsQueue : Queue → List (List ℕ) → Queue → Type 0
ReadsQueue queue [] left = left ≡ queue
ReadsQueue queue (body ∷ bodies) left =
    (next : Queue) × ReadsBody queue body next × ReadsQueue next bodies left

-- the first body is a snapshot, or the record of a first change
abbrev pub ReadsFirst : List ℕ → Queue → Type 0
ReadsFirst body left = IsSnapshotOf body left ⊎ ReadsBody empty_queue body left

-- it is neither
pub record ReadsNoFirst (body : List ℕ) : Type 0 where
  pub none : (left : Queue) → ReadsFirst body left → ⊥

-- the queue that the bodies of a spool leave
abbrev pub ReadsAll : List (List ℕ) → Queue → Type 0
ReadsAll [] left = left ≡ empty_queue
ReadsAll (body ∷ bodies) left = (next : Queue) × ReadsFirst body next × ReadsQueue next bodies left

-- the bodies stand for these changes
pub record StandsFor (bodies : List (List ℕ)) (changes : List Change) : Type 0 where
  pub fitting : Fitting changes
  pub reads : ReadsAll bodies (queue_of changes)

-- No bodies stand for no changes.
abbrev pub NoneStandForNone : Type 0
NoneStandForNone = StandsFor [] []

-- A change that fits, and its encoding, may be added.
abbrev pub OneMoreStands : Type 0
OneMoreStands =
    (bodies : List (List ℕ)) (changes : List Change) (change : Change) → StandsFor bodies changes
    → FitsQueue (queue_of changes) change
    → StandsFor (bodies ++ encode change ∷ []) (changes ++ change ∷ [])

-- What is read from bodies is the queue of the changes that they stand for, and no other.
abbrev pub QueueIsRead : Type 0
QueueIsRead =
    (bodies : List (List ℕ)) (changes : List Change) (queue : Queue) → StandsFor bodies changes
    → ReadsAll bodies queue ↔ (queue ≡ queue_of changes)

-- Bodies leave one queue, so they stand for the lists of changes that leave it, and for no other.
abbrev pub BodiesLeaveOne : Type 0
BodiesLeaveOne =
    (bodies : List (List ℕ)) (queue other : Queue) → ReadsAll bodies queue → ReadsAll bodies other
    → queue ≡ other

-- The encodings of changes stand for them.
abbrev pub EncodingsStand : Type 0
EncodingsStand = (changes : List Change) → Fitting changes → StandsFor (map encode changes) changes

-- A queue that may be stored stays one with each change that fits it, and so the queue of each list is one.
abbrev pub StepIsQueue : Type 0
StepIsQueue =
    (queue : Queue) (change : Change) → FitsQueue queue change → IsQueue queue → IsQueue (step queue change)

abbrev pub ListIsQueue : Type 0
ListIsQueue = (changes : List Change) → Fitting changes → IsQueue (queue_of changes)

-- A message of such a queue may be stored under its number.
abbrev pub FoundIsQueued : Type 0
FoundIsQueued =
    (queue : Queue) (number : ℕ) (message : Message) → IsQueue queue
    → message_of queue.messages number ≡ Some message → IsQueued (number, message)

-- The snapshot of a queue that may be stored reads as that queue, if it is short enough to be a body.
abbrev pub SnapshotIsRead : Type 0
SnapshotIsRead =
    (queue : Queue) → IsQueue queue → length (snapshot queue) < 2 ^ 32 → ReadsAll (snapshot queue ∷ []) queue

-- The snapshot of the queue of a list stands for the list.
abbrev pub SnapshotStands : Type 0
SnapshotStands =
    (changes : List Change) → Fitting changes → length (snapshot (queue_of changes)) < 2 ^ 32
    → StandsFor (snapshot (queue_of changes) ∷ []) changes

-- A record is short enough to be a body: its length fits four octets.
abbrev pub RecordIsShort : Type 0
RecordIsShort = (change : Change) → IsChange change → length (encode change) < 2 ^ 32

-- What callers see of the attempts of a node, and what they must do with its queue.
use Rattle.std.specs.Prelude.{◌≡◌, ◌≢◌, ℕ, true, false, List, [], Option, Some, None, slice_set}
use Rattle.relay_slots.specs.Slots.{IsFull, IsLeastFree, slot_at}
use Rattle.relay_envelope.specs.declared.envelope.Envelope.{Envelope}
use Rattle.relay_routes.specs.Routes.{RouteTable}
use Rattle.relay_book.specs.declared.message.Message.{Message}
use Rattle.relay_book.specs.Queue.{Queue, message_of}
use Rattle.relay_records.specs.declared.fault.NodeFault.{NodeFault}
use Rattle.relay_records.specs.declared.fault.NodeFault.TheVariants.{NoMemory, Stopped, Unknown, TooMany, NotDue, Busy}
use Rattle.relay_records.specs.Records.{Kept}
use Rattle.relay_client.specs.Attempt.{Follows}
use Rattle.relay_attempts.specs.declared.runs.Run.{Run}
use Rattle.relay_attempts.specs.declared.start.Started.{Started}
use Rattle.relay_attempts.specs.Hops.{at_most, due_places_in, stranded_of}
use Rattle.relay_attempts.specs.Runs.{EachRuns, NoneTwice, is_running}

-- the running attempts by number; the numbers of the messages with a held place that has no hop, and how many more can
-- be noted without memory
pub record AttemptTable : Type 0 where
  pub runs : List (Option Run)
  pub stranded : List ℕ
  pub room : ℕ

-- the numbers are those of this queue under this table
abbrev pub KnowsStranded : AttemptTable → RouteTable → Queue → Type 0
KnowsStranded attempts table queue = attempts.stranded ≡ stranded_of table queue.messages

-- the attempts are those of a node of this name and table, and of this queue
pub record Serves (host : List ℕ) (table : RouteTable) (attempts : AttemptTable) (queue : Queue) : Type 0 where
  pub stranded : KnowsStranded attempts table queue
  pub runs : EachRuns host table queue attempts.runs
  pub once : NoneTwice attempts.runs

-- an attempt of this host that has read and written nothing, for any message
pub record Begun (host : List ℕ) (number : ℕ) (hop places : List ℕ) (run : Run) : Type 0 where
  pub its_message : run.message ≡ number
  pub its_hop : run.hop ≡ hop
  pub its_places : run.places.items ≡ places
  pub follows : (envelope : Envelope) (text : List ℕ) → Follows run.client host envelope text places [] []

-- The words below are of an attempt for a message and a hop that is to start at a time, for at most this many places.
module _ (host : List ℕ) (table : RouteTable) (number : ℕ) (hop : List ℕ) (most : Option ℕ) (now : ℕ) where
  -- an attempt for these places, which are due, has begun under the least free number, and none was running for message
  -- and hop
  pub record StartsAtMost (queue : Queue) (old new : List (Option Run)) (started : Started) : Type 0 where
    pub least : IsLeastFree old started.attempt
    pub message : Message
    pub found : message_of queue.messages number ≡ Some message
    pub free : is_running old number hop ≡ false
    pub places : started.places.items ≡ at_most most (due_places_in table hop now message)
    pub some : started.places.items ≢ []
    pub run : Run
    pub put : new ≡ slice_set old started.attempt (Some run)
    pub at : slot_at new started.attempt ≡ Some run
    pub begun : Begun host number hop started.places.items run

  -- the message is queued, and not all numbers are taken
  pub record MayBegin (queue : Queue) (runs : List (Option Run)) : Type 0 where
    pub message : Message
    pub found : message_of queue.messages number ≡ Some message
    pub least : ℕ
    pub free : IsLeastFree runs least

  -- why none starts: the first of these, and lack of memory after them all
  abbrev pub RefusesToStartAtMost : {D : Type 0} → Kept D → List (Option Run) → NodeFault → Type 0
  RefusesToStartAtMost records runs Stopped = records.spool.live ≡ false
  RefusesToStartAtMost records runs Unknown =
      (records.spool.live ≡ true) × (message_of records.queue.messages number ≡ None)
  RefusesToStartAtMost records runs TooMany =
      (records.spool.live ≡ true) × (message_of records.queue.messages number ≢ None) × IsFull runs
  RefusesToStartAtMost records runs Busy =
      (records.spool.live ≡ true) × MayBegin records.queue runs × (is_running runs number hop ≡ true)
  RefusesToStartAtMost records runs NotDue =
      (records.spool.live ≡ true) × (begin : MayBegin records.queue runs) × (is_running runs number hop ≡ false)
      × (at_most most (due_places_in table hop now begin.message) ≡ [])
  RefusesToStartAtMost records runs NoMemory =
      (records.spool.live ≡ true) × (begin : MayBegin records.queue runs) × (is_running runs number hop ≡ false)
      × (at_most most (due_places_in table hop now begin.message) ≢ [])
  RefusesToStartAtMost records runs other = ⊥

-- an attempt has begun for all places of the message that are due and go to the hop
abbrev pub Starts :
    List ℕ → RouteTable → ℕ → List ℕ → ℕ → Queue → List (Option Run) → List (Option Run) → Started → Type 0
Starts host table number hop = StartsAtMost host table number hop None

-- why none starts for all of them
abbrev pub RefusesToStart :
    List ℕ → RouteTable → ℕ → List ℕ → ℕ → {D : Type 0} → Kept D → List (Option Run) → NodeFault → Type 0
RefusesToStart host table number hop = RefusesToStartAtMost host table number hop None

-- The attempts of a node to relay its mail, in its list of changes (RFC 5321, section 4.5.4.1).
use Rattle.std.specs.Prelude.{◌≡◌, ◌≢◌, ℕ, ◌≤◌, false, List, [], ◌∷◌, ◌++◌, length, take, Option, None, Some}
use Rattle.relay_disk.specs.Device.{DiskWords}
use Rattle.relay_disk.specs.Disks.{FailsNot}
use Rattle.relay_slots.specs.Slots.{IsLeastFree, OthersStay, slot_at}
use Rattle.relay_routes.specs.declared.config.Config.{Config}
use Rattle.relay_book.specs.declared.change.Accept.{Accept}
use Rattle.relay_book.specs.declared.change.Change.{Change}
use Rattle.relay_book.specs.declared.message.Message.{Message}
use Rattle.relay_book.specs.Marks.{message_at}
use Rattle.relay_book.specs.Queue.{Fitting, message_of, queue_of}
use Rattle.relay_records.specs.Records.{IsStopped}
use Rattle.relay_records.specs.declared.fault.NodeFault.{NodeFault}
use Rattle.relay_records.specs.declared.fault.NodeFault.TheVariants.{NoMemory, Stopped, Unknown, Full}
use Rattle.relay_client.specs.Attempt.{Follows}
use Rattle.relay_attempts.specs.declared.reply.Replied.{Replied}
use Rattle.relay_attempts.specs.declared.runs.Run.{Run}
use Rattle.relay_attempts.specs.declared.start.Started.{Started}
use Rattle.relay_attempts.specs.Hops.{at_most, due_places_in}
use Rattle.relay_attempts.specs.Reply.{AttemptHasEnded, Makes, Told, told_more}
use Rattle.relay_attempts.specs.Runs.{is_running}
use Rattle.relay_node.specs.Node.{NodeState}
use Rattle.relay_report.specs.Report.{Reporter, reporter_of}

-- This is told of the attempt of a number: by the list of changes its message was accepted with this envelope and
-- stored text, and its client has read and written this.
pub record Tells (host : List ℕ) (changes : List Change) (attempts : List (Option Run)) (number : ℕ) (told : Told)
    : Type 0 where
  pub run : Run
  pub at : slot_at attempts number ≡ Some run
  pub its_message : run.message ≡ told.message
  pub its_hop : run.hop ≡ told.hop
  pub its_places : run.places.items ≡ told.places
  pub accept : Accept
  pub accepted : message_at changes told.message ≡ Some accept
  pub envelope_is : accept.envelope ≡ told.envelope
  pub text_is : accept.stored_text ≡ told.text
  pub follows : Follows run.client host told.envelope told.text told.places told.input told.output

-- What is told of an attempt stays so while changes are added, as long as the attempt is the same.
abbrev pub ToldStays : Type 0
ToldStays =
    (host : List ℕ) (changes : List Change) (change : Change) (old new : List (Option Run)) (number : ℕ) (told : Told)
    → Fitting (changes ++ change ∷ []) → slot_at new number ≡ slot_at old number
    → Tells host changes old number told → Tells host (changes ++ change ∷ []) new number told

-- of an attempt that has begun for these places of a message, nothing was read and written
abbrev pub begun_with : ℕ → List ℕ → List ℕ → Message → Told
begun_with number hop places message = record {
  message = number;
  hop = hop;
  places = places;
  envelope = message.accept.envelope;
  text = message.accept.stored_text;
  input = [];
  output = [];
}

-- by the list of changes: an attempt has begun for the first of those places of a message that are due and go to this
-- hop, at most this many, under the least free number, and none was running for message and hop
pub record BeginsAtMost (config : Config) (changes : List Change) (number : ℕ) (hop : List ℕ) (most : Option ℕ)
    (now : ℕ) (old new : List (Option Run))
    (started : Started) : Type 0 where
  pub least : IsLeastFree old started.attempt
  pub free : is_running old number hop ≡ false
  pub message : Message
  pub found : message_of (queue_of changes).messages number ≡ Some message
  pub places : started.places.items ≡ at_most most (due_places_in config.routes hop now message)
  pub some : started.places.items ≢ []
  pub tells : Tells config.host changes new started.attempt (begun_with number hop started.places.items message)
  pub others : OthersStay old new started.attempt

-- an attempt has begun for all of them
abbrev pub Begins :
    Config → List Change → ℕ → List ℕ → ℕ → List (Option Run) → List (Option Run) → Started → Type 0
Begins config changes number hop = BeginsAtMost config changes number hop None

-- The words below are of a call at a time, for an attempt of which this is told, of a node that keeps these changes.
module _ {D : Type 0} (honest : Type 0) (words : DiskWords D) (reporter : Reporter) (now : ℕ) (changes : List Change)
    (number : ℕ) (told : Told) where
  -- it goes on: all of the piece was read, and the records are the same
  pub record ReadsOn (piece : List ℕ) (old new : NodeState D) (replied : Replied) : Type 0 where
    pub used : replied.used ≡ length piece
    pub same : new.records ≡ old.records
    pub tells : Tells reporter.host changes new.attempts number (told_more told (take replied.used piece)
        replied.out.items)

  -- it goes on, or it has ended, and its outcome is the change of this number
  abbrev pub RepliesBy : List ℕ → NodeState D → NodeState D → Replied → Option ℕ → Type 0
  RepliesBy piece old new replied None = ReadsOn piece old new replied
  RepliesBy piece old new replied (Some change) =
      AttemptHasEnded honest words reporter now changes number told piece old.records new.records new.attempts replied
      change

  abbrev pub Replies : List ℕ → NodeState D → NodeState D → Replied → Type 0
  Replies piece old new replied = RepliesBy piece old new replied replied.change

-- Octets of a piece of this length were used: all, unless a change was made, and then the attempt is gone. The records
-- are the same, or have grown by that change, and no call of the device has failed.
pub record UsesReply {D : Type 0} (words : DiskWords D) (now number len : ℕ) (old new : NodeState D) (replied : Replied)
    : Type 0 where
  pub within : replied.used ≤ len
  pub whole : replied.change ≡ None → replied.used ≡ len
  pub gone : replied.change ≢ None → slot_at new.attempts number ≡ None
  pub makes : Makes words (reporter_of old.config) now number old.attempts new.attempts old.records new.records
      replied.change
  pub failures : FailsNot words old.records.spool.disk new.records.spool.disk

-- the attempt is gone, and the records are unchanged
pub record IsDropped {D : Type 0} (number : ℕ) (old new : NodeState D) : Type 0 where
  pub attempt : slot_at new.attempts number ≡ None
  pub records : new.records ≡ old.records

-- what a live node leaves where it refuses a reply to an attempt, or the loss of its connection
abbrev pub RefusesToReply : {D : Type 0} → DiskWords D → ℕ → NodeState D → NodeState D → NodeFault → Type 0
RefusesToReply words number old new NoMemory = IsDropped number old new
RefusesToReply words number old new Stopped = IsStopped words 4 old.records new.records
RefusesToReply words number old new Unknown = new ≡ old
RefusesToReply words number old new Full = IsDropped number old new
RefusesToReply words number old new other = ⊥

-- What a relay does on the connection to a next hop.
use Rattle.std.specs.Prelude.{◌≡◌, ◌≢◌, ◌⊎◌, ℕ, ◌≤◌, true, false, List, [], ◌++◌, length, take, Option, None, Some}
use Rattle.std.specs.Prelude.{Result, Err, IfErr}
use Rattle.relay_disk.specs.Device.{DiskWords}
use Rattle.relay_disk.specs.Disks.{FailsNot}
use Rattle.relay_slots.specs.Slots.{slot_at}
use Rattle.relay_book.specs.declared.change.Change.{Change}
use Rattle.relay_book.specs.declared.change.Verdict.{Verdict}
use Rattle.relay_records.specs.declared.fault.NodeFault.{NodeFault}
use Rattle.relay_records.specs.declared.fault.NodeFault.TheVariants.{Unknown}
use Rattle.relay_attempts.specs.AddedOutcome.{AddsOutcome}
use Rattle.relay_attempts.specs.Reply.{IsItsCourse, Makes, Told, outcome_at, told_more}
use Rattle.relay_attempts.specs.declared.reply.Replied.{Replied}
use Rattle.relay_attempts.specs.declared.start.Started.{Started}
use Rattle.relay_node.specs.Attempts.{BeginsAtMost, RefusesToReply, Tells, begun_with}
use Rattle.relay_loop.specs.declared.hops.Answered.{Answered}
use Rattle.relay_loop.specs.Outboxes.{unwritten_at}
use Rattle.relay_loop.specs.Relay.{RelayState}
use Rattle.relay_report.specs.Report.{reporter_of}

-- The history of the attempt of a number, by these changes: this much of what it wrote was written to its connection,
-- the rest is unwritten.
pub record HandsTo {D : Type 0} (changes : List Change) (relay : RelayState D) (attempt : ℕ) (told : Told)
    (written : List ℕ)
    : Type 0 where
  pub tells : Tells relay.node.config.host changes relay.node.attempts attempt told
  pub waiting : List ℕ
  pub connection : slot_at relay.hops attempt ≡ Some waiting
  pub output : told.output ≡ written ++ waiting

-- An attempt has begun for a message and a hop, for at most this many places; nothing was written to its connection,
-- and nothing is to be written.
pub record StartsToAtMost {D : Type 0} (changes : List Change) (message : ℕ) (hop : List ℕ) (most : Option ℕ) (now : ℕ)
    (old new : RelayState D) (started : Started)
    : Type 0 where
  pub begins : BeginsAtMost old.node.config changes message hop most now old.node.attempts new.node.attempts started
  pub hands : HandsTo changes new started.attempt (begun_with message hop started.places.items begins.message) []

-- an attempt has begun for all places that are due and go to the hop
abbrev pub StartsTo : {D : Type 0} → List Change → ℕ → List ℕ → ℕ → RelayState D → RelayState D → Started → Type 0
StartsTo changes message hop = StartsToAtMost changes message hop None

-- Below: a reply at a time, to an attempt with this history and these octets written, with nothing unwritten.
module _ {D : Type 0} (honest : Type 0) (words : DiskWords D) (changes : List Change) (attempt now : ℕ) (told : Told)
    (written : List ℕ) where
  -- the attempt goes on after the whole piece, and the records are the same
  pub record HandsOn (piece : List ℕ) (old new : RelayState D) (answered : Answered) : Type 0 where
    pub used : answered.used ≡ length piece
    pub same : new.node.records ≡ old.node.records
    pub last : answered.last ≡ None
    pub out : List ℕ
    pub hands : HandsTo changes new attempt (told_more told (take answered.used piece) out) written

  -- The attempt has ended, with these last octets: its one outcome, with the report that is owed, was added as the
  -- change of this number. The attempt and its connection are gone.
  pub record HandsLast (piece : List ℕ) (old new : RelayState D) (answered : Answered) (change : ℕ) : Type 0 where
    pub last : List ℕ
    pub last_is : answered.last ≡ Some last
    pub verdicts : List Verdict
    pub course : IsItsCourse old.node.config.host (told_more told (take answered.used piece) last) false verdicts
    pub output : told.output ++ last ≡ written ++ last
    pub adds : AddsOutcome honest words (reporter_of old.node.config) changes (outcome_at now told verdicts)
        answered.used new.node.records change
    pub gone : slot_at new.node.attempts attempt ≡ None
    pub connection : slot_at new.hops attempt ≡ None

  abbrev pub RepliesBy : List ℕ → RelayState D → RelayState D → Answered → Option ℕ → Type 0
  RepliesBy piece old new answered None = HandsOn piece old new answered
  RepliesBy piece old new answered (Some change) = HandsLast piece old new answered change

  abbrev pub Replies : List ℕ → RelayState D → RelayState D → Answered → Type 0
  Replies piece old new answered = RepliesBy piece old new answered answered.change

-- How much of a piece of this length a reply uses: the whole piece if nothing was unwritten and the attempt goes on. An
-- attempt that has ended is gone. The records are the same, or have grown by its outcome, and no call of the device has
-- failed.
pub record UsesReply {D : Type 0} (words : DiskWords D) (now attempt len : ℕ) (old new : RelayState D)
    (answered : Answered)
    : Type 0 where
  pub within : answered.used ≤ len
  pub whole : unwritten_at old.hops attempt ≡ [] → answered.change ≡ None → answered.used ≡ len
  pub gone : answered.change ≢ None → slot_at new.node.attempts attempt ≡ None
  pub makes : unwritten_at old.hops attempt ≡ []
      → Makes words (reporter_of old.node.config) now attempt old.node.attempts new.node.attempts old.node.records
      new.node.records answered.change
  pub failures : FailsNot words old.node.records.spool.disk new.node.records.spool.disk

-- there is no connection of this number, or no attempt
abbrev pub IsUnknown : {D : Type 0} → RelayState D → ℕ → Type 0
IsUnknown relay attempt = (slot_at relay.hops attempt ≡ None) ⊎ (slot_at relay.node.attempts attempt ≡ None)

-- A reply, or the loss of a connection, is refused: the connection is gone. A stopped node is unchanged; a live one is
-- as its own call leaves it, or, if only the connection was unknown, as a call on an unknown attempt leaves it.
pub record RefusesHop {D T : Type 0} (words : DiskWords D) (attempt : ℕ) (old new : RelayState D)
    (result : Result T NodeFault)
    : Type 0 where
  pub gone : IfErr result (λ _. slot_at new.hops attempt ≡ None)
  pub refused : old.node.records.spool.live ≡ true → IfErr result (RefusesToReply words attempt old.node new.node)
  pub stopped : old.node.records.spool.live ≡ false → new.node ≡ old.node
  pub unknown : result ≡ Err Unknown → IsUnknown old attempt

-- the result of a reply is that of the node's call, without the octets for the next hop
pub record IsAnsweredBy (replied : Replied) (answered : Answered) : Type 0 where
  pub used : answered.used ≡ replied.used
  pub change : answered.change ≡ replied.change

-- these octets are to be written to the attempt's connection, or, if the attempt has ended by a change, are its last
-- ones
abbrev pub IsSetTo : Option ℕ → ℕ → List ℕ → Option (List ℕ) → List (Option (List ℕ)) → Type 0
IsSetTo (Some change) attempt out last hops = (slot_at hops attempt ≡ None) × (last ≡ Some out)
IsSetTo None attempt out last hops = (slot_at hops attempt ≡ Some out) × (last ≡ None)

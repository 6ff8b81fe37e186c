-- How a device fault that is set for a later call comes nearer: by the number of device calls that the node's own
-- events make, each of which succeeds.
use Rattle.std.specs.Prelude.{◌≡◌, ◌≤◌, ℕ, List, Option, None, Some}
use Rattle.relay_disk.specs.Device.{DiskWords}
use Rattle.relay_disk.specs.Disks.{calls_left_of}
use Rattle.relay_spool.specs.Head.{renewal_calls}
use Rattle.relay_spool.specs.Spool.{Passes, PassesAny, PassesSome}
use Rattle.relay_book.specs.declared.change.Change.{Change}
use Rattle.relay_node.specs.Node.{NodeState}
use Rattle.relay_world.specs.Bound.{IsBound}
use Rattle.relay_world.specs.Crashes.{CrashesAtRest, CrashesCompacting, CrashesGivingUp, CrashesHearing, CrashesLosing}
use Rattle.relay_world.specs.Crashes.{CrashesReading}
use Rattle.relay_world.specs.GivingUp.{Reason}
use Rattle.relay_world.specs.Steps.{HasGivenUp, HasHeard, HasLost, HasRead}
use Rattle.relay_world.specs.Stops.{HasCompacted, HasReopened, IsNearerOrGone, IsRefused}
use Rattle.relay_world.specs.World.{World}

-- the node made this many device calls, which all succeeded, and a pending fault is nearer by as many
abbrev pub CountsDown : {D : Type 0} → DiskWords D → ℕ → NodeState D → NodeState D → Type 0
CountsDown words calls before after = Passes words calls before.records.spool.disk after.records.spool.disk

-- how many device calls a change takes; none if no change was added
abbrev pub calls_of : Option ℕ → ℕ
calls_of None = 0
calls_of (Some change) = 4

-- A pending fault comes nearer by four calls for each change that hearing or reading adds, and by none if they add
-- none; by four for the loss of a link, and for giving up places without an attempt; and by the calls that rewrite a
-- disk for compacting the spool. Of the other events, one sets a fault, some stop a node or open it, as is said below,
-- and all others leave its records unchanged.
abbrev pub StopsCountDown : {D : Type 0} → Type 0 → DiskWords D → Type 0
StopsCountDown {D} honest words =
    (old new : World D) (lists : List (List Change)) (reason : Reason)
    (number count node message change : ℕ)
    → IsBound honest words old lists
    → ((heard : HasHeard honest words old new number count)
    → CountsDown words (calls_of heard.received.change) heard.of.before heard.after)
    × ((read : HasRead honest words old new number count)
    → CountsDown words (calls_of read.replied.change) read.of.before read.after)
    × ((lost : HasLost honest words old new number change) → CountsDown words 4 lost.of.before lost.after)
    × ((given : HasGivenUp honest words old new reason node message change)
    → CountsDown words 4 given.before given.after)
    × ((compacted : HasCompacted honest words old new node)
    → CountsDown words (renewal_calls compacted.stays.before.records.spool.taken.other) compacted.stays.before
    compacted.stays.after)

-- No fault is set anew by a stop. A pending one is gone then; or, if memory ran out, it is nearer by the calls that the
-- node made in that event: by none between two calls, by four at most for a change, and by those at most that rewrite a
-- disk for compacting the spool.
abbrev pub StoppingSetsNone : {D : Type 0} → Type 0 → DiskWords D → Type 0
StoppingSetsNone {D} honest words =
    (old new : World D) (reason : Reason) (number count node message : ℕ)
    → ((crash : CrashesAtRest honest words old new node)
    → IsNearerOrGone words 0 crash.before.records.spool.disk crash.disk)
    × ((crash : CrashesHearing honest words old new number count)
    → IsNearerOrGone words 4 crash.of.before.records.spool.disk crash.disk)
    × ((crash : CrashesReading honest words old new number count)
    → IsNearerOrGone words 4 crash.of.before.records.spool.disk crash.crash.disk)
    × ((crash : CrashesLosing honest words old new number)
    → IsNearerOrGone words 4 crash.of.before.records.spool.disk crash.crash.disk)
    × ((crash : CrashesGivingUp honest words old new reason node message)
    → IsNearerOrGone words 4 crash.before.records.spool.disk crash.disk)
    × ((crash : CrashesCompacting honest words old new node)
    → IsNearerOrGone words (renewal_calls crash.before.records.spool.taken.other) crash.before.records.spool.disk
    crash.disk)

-- A node that was down is up, with a fault pending that wasn't, or that has come no nearer.
pub record SetsFaultAnew {D : Type 0} (honest : Type 0) (words : DiskWords D) (old new : World D) (node : ℕ) : Type 0
  where
    pub opened : HasReopened honest words old new node
    pub left : ℕ
    pub pending : calls_left_of words opened.after.records.spool.disk ≡ Some left
    pub was : (before : ℕ) → calls_left_of words opened.disk ≡ Some before → before ≤ left

-- Nor is one set anew by an opening, whose calls all pass, one at least, and bring a pending fault nearer. Where a node
-- can't be opened, a pending fault is nearer by the calls that passed.
abbrev pub OpeningSetsNone : {D : Type 0} → Type 0 → DiskWords D → Type 0
OpeningSetsNone {D} honest words =
    (old new : World D) (node : ℕ)
    → ((opened : HasReopened honest words old new node)
    → PassesSome words opened.disk opened.after.records.spool.disk)
    × (SetsFaultAnew honest words old new node → ⊥)
    × ((refused : IsRefused honest words old new node) → PassesAny words refused.stays.disk refused.stays.again)

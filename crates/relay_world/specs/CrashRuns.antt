-- A crash as a run of events, which preserves that each place is tried once.
use Rattle.std.specs.Prelude.{ℕ, zero, suc, List, []}
use Rattle.relay_disk.specs.Device.{DiskWords}
use Rattle.relay_book.specs.declared.change.Change.{Change}
use Rattle.relay_world.specs.Bound.{IsBound}
use Rattle.relay_world.specs.Crashes.{CrashesAtRest, CrashesCompacting, CrashesGivingUp, CrashesHearing, CrashesLosing}
use Rattle.relay_world.specs.Crashes.{CrashesReading}
use Rattle.relay_world.specs.GivingUp.{Reason, Withdrawing, asked_by}
use Rattle.relay_world.specs.Once.{HappenAsking, IsTriedOnce}
use Rattle.relay_world.specs.Stops.{HasCompacted, HasReopened}
use Rattle.relay_world.specs.World.{World}

abbrev pub CrashingKeepsOnce : {D : Type 0} → Type 0 → DiskWords D → Type 0
CrashingKeepsOnce {D} honest words =
    (old new : World D) (lists : List (List Change)) (asked : List Withdrawing) (number count : ℕ)
    → IsBound honest words old lists
    → IsTriedOnce old lists asked
    → (CrashesHearing honest words old new number count → IsTriedOnce new lists asked)
    × (CrashesReading honest words old new number count → IsTriedOnce new lists asked)
    × (CrashesLosing honest words old new number → IsTriedOnce new lists asked)

-- It is a run of two events, neither of which is the postmaster's: the node lets go of its ends, and then stops in the
-- call.
abbrev pub CrashingHappens : {D : Type 0} → Type 0 → DiskWords D → Type 0
CrashingHappens {D} honest words =
    (old new : World D) (lists : List (List Change)) (number count : ℕ) → IsBound honest words old lists
    → (CrashesHearing honest words old new number count → HappenAsking honest words [] (suc (suc zero)) old new)
    × (CrashesReading honest words old new number count → HappenAsking honest words [] (suc (suc zero)) old new)
    × (CrashesLosing honest words old new number → HappenAsking honest words [] (suc (suc zero)) old new)

-- So is a crash between two calls, while places are given up without an attempt, as the postmaster asks or not, or
-- while a spool is compacted.
abbrev pub RestingCrashHappens : {D : Type 0} → Type 0 → DiskWords D → Type 0
RestingCrashHappens {D} honest words =
    (old new : World D) (reason : Reason) (node message : ℕ)
    → (CrashesAtRest honest words old new node → HappenAsking honest words [] (suc (suc zero)) old new)
    × (CrashesGivingUp honest words old new reason node message
    → HappenAsking honest words (asked_by reason node message) (suc (suc zero)) old new)
    × (CrashesCompacting honest words old new node → HappenAsking honest words [] (suc (suc zero)) old new)

-- Compacting a spool is one event; a crash in that call and the opening after it are a run of three.
abbrev pub CompactingHappens : {D : Type 0} → Type 0 → DiskWords D → Type 0
CompactingHappens {D} honest words =
    (old between new : World D) (node : ℕ)
    → (HasCompacted honest words old new node → HappenAsking honest words [] (suc zero) old new)
    × (CrashesCompacting honest words old between node → HasReopened honest words between new node
    → HappenAsking honest words [] (suc (suc (suc zero))) old new)

-- What the promise rules out for ledgers, attempts and links: a line that names a wrong link, an outcome that is
-- forgotten, and a link that heals. Each is stated of the worlds, whatever call was made. And a stop in a call is a
-- failure of the device.
use Rattle.std.specs.Prelude.{◌≡◌, ◌≢◌, ◌⊎◌, ℕ, true, false, List, Some, slice_get}
use Rattle.relay_disk.specs.Device.{DiskWords}
use Rattle.relay_book.specs.declared.change.Change.{Change}
use Rattle.relay_book.specs.declared.fate.PlaceStep.{PlaceStep}
use Rattle.relay_spool.specs.Head.{renewal_calls}
use Rattle.relay_records.specs.Records.{IsStopped}
use Rattle.relay_world.specs.declared.attempt.Attempt.{Attempt}
use Rattle.relay_world.specs.declared.attempt.Fate.TheVariants.{Replied}
use Rattle.relay_world.specs.declared.line.Line.TheVariants.{Accepted, Became}
use Rattle.relay_world.specs.declared.link.Link.{Link}
use Rattle.relay_world.specs.declared.link.ServerEnd.{ServerEnd}
use Rattle.relay_world.specs.GivingUp.{Reason}
use Rattle.relay_world.specs.Crashes.{CrashesCompacting, CrashesGivingUp, CrashesHearing, CrashesLosing, CrashesReading}
use Rattle.relay_world.specs.Growth.{AttemptsGrow, HasGrown}
use Rattle.relay_world.specs.Lines.{HasSources}
use Rattle.relay_world.specs.World.{World, link_at}

-- The ledger has an accept of a node on a link that the node doesn't serve, or that doesn't exist.
pub record MisnamesAccept {D : Type 0} (world : World D) : Type 0 where
  pub at : ℕ
  pub node : ℕ
  pub number : ℕ
  pub places : ℕ
  pub link : ℕ
  pub line_at : slice_get world.ledger at ≡ Some (Accepted node number places link)
  pub elsewhere : (its : Link) (end : ServerEnd) → link_at world.links link ≡ Some its → its.server ≡ Some end
      → end.node ≢ node

-- The ledger has a line for a place of a message on a link that has no attempt of the node for the message.
pub record MisnamesLeaving {D : Type 0} (world : World D) : Type 0 where
  pub at : ℕ
  pub step : PlaceStep
  pub node : ℕ
  pub message : ℕ
  pub place : ℕ
  pub link : ℕ
  pub report : ℕ
  pub line_at : slice_get world.ledger at ≡ Some (Became step node message place link report)
  pub named : link ≢ 0
  pub untried : (other : ℕ) (attempt : Attempt) → slice_get world.attempts other ≡ Some attempt → attempt.node ≡ node
      → attempt.message ≡ message → attempt.link ≢ link

-- Then some line lacks its source.
abbrev pub MisnamingBreaks : Type 0 → Type 0
MisnamingBreaks D =
    (world : World D) (lists : List (List Change)) → MisnamesAccept world ⊎ MisnamesLeaving world
    → HasSources world lists → ⊥

-- An attempt that replies had ended has another state now, or is gone.
pub record ForgetsOutcome {D : Type 0} (old new : World D) : Type 0 where
  pub at : ℕ
  pub attempt : Attempt
  pub was_there : slice_get old.attempts at ≡ Some attempt
  pub number : ℕ
  pub replied : attempt.fate ≡ Replied number
  pub other : (its : Attempt) → slice_get new.attempts at ≡ Some its → its.fate ≢ Replied number

-- Then attempts haven't only moved on.
abbrev pub ForgettingOutcomeBreaks : Type 0 → Type 0
ForgettingOutcomeBreaks D = (old new : World D) → ForgetsOutcome old new → AttemptsGrow old new → ⊥

-- A broken link is whole now, was written on, or is gone.
pub record Heals {D : Type 0} (old new : World D) : Type 0 where
  pub number : ℕ
  pub link : Link
  pub was_there : link_at old.links number ≡ Some link
  pub broken : link.broken ≡ true
  pub whole : (its : Link) → link_at new.links number ≡ Some its
      → (its.broken ≡ false) ⊎ (its.up ≢ link.up) ⊎ (its.down ≢ link.down)

-- Then links haven't only grown.
abbrev pub HealingBreaks : Type 0 → Type 0
HealingBreaks D = (old new : World D) → Heals old new → HasGrown old new → ⊥

-- A node stops in a call only because its device has failed there, whatever the call; a fault that is set for a later
-- call is nearer then by the device calls that were made.
abbrev pub StoppingIsFailing : {D : Type 0} → Type 0 → DiskWords D → Type 0
StoppingIsFailing {D} honest words =
    (old new : World D) (reason : Reason) (number count node message : ℕ)
    → ((crash : CrashesHearing honest words old new number count)
    → IsStopped words 4 crash.of.before.records crash.stopped)
    × ((crash : CrashesReading honest words old new number count)
    → IsStopped words 4 crash.of.before.records crash.stopped)
    × ((crash : CrashesLosing honest words old new number) → IsStopped words 4 crash.of.before.records crash.stopped)
    × ((crash : CrashesGivingUp honest words old new reason node message)
    → IsStopped words 4 crash.before.records crash.stopped)
    × ((crash : CrashesCompacting honest words old new node)
    → IsStopped words (renewal_calls crash.before.records.spool.taken.other) crash.before.records crash.stopped)

-- What the invariant rules out: an outcome without an attempt.
use Rattle.std.specs.Prelude.{◌≡◌, ◌≢◌, ℕ, List, [], ◌∷◌, ◌++◌, Some, slice_get}
use Rattle.std.specs.List.{Contains}
use Rattle.relay_disk.specs.Device.{DiskWords}
use Rattle.relay_book.specs.declared.change.Change.{Change}
use Rattle.relay_book.specs.declared.change.Outcome.{Outcome}
use Rattle.relay_book.specs.declared.change.Verdict.{Verdict}
use Rattle.relay_book.specs.declared.change.Verdict.TheVariants.{NoRoute, Withdrawn}
use Rattle.relay_book.specs.declared.change.Withdrawal.{Withdrawal}
use Rattle.relay_records.specs.declared.noted.Noted.{Noted}
use Rattle.relay_records.specs.Records.{Keeps}
use Rattle.relay_attempts.specs.AddedOutcome.{AddsOutcome}
use Rattle.relay_node.specs.Node.{NodeState}
use Rattle.relay_world.specs.Bound.{IsBound}
use Rattle.relay_world.specs.GivingUp.{Withdrawing}
use Rattle.relay_world.specs.Once.{IsTriedOnce}
use Rattle.relay_world.specs.Steps.{IsPut, without_note}
use Rattle.relay_world.specs.World.{Host, Up, World}
use Rattle.relay_report.specs.Report.{reporter_of}

-- A node has recorded an outcome with which no attempt has ended, and not all of its verdicts say that the place has no
-- hop.
pub record Invents {D : Type 0} (honest : Type 0) (words : DiskWords D) (old new : World D) (node change : ℕ)
    : Type 0 where
  pub host : Host D
  pub host_at : slice_get old.hosts node ≡ Some host
  pub before : NodeState D
  pub up : host.state ≡ Up before
  pub after : NodeState D
  pub outcome : Outcome
  pub place : ℕ
  pub verdict : Verdict
  pub ruling : Contains outcome.rulings (record { place = place; verdict = verdict })
  pub other : verdict ≢ NoRoute
  pub not_withdrawn : (withdrawal : Withdrawal) → verdict ≢ Withdrawn withdrawal
  pub adds : (changes : List Change) → Keeps honest words before.records changes
      → AddsOutcome honest words (reporter_of host.config) changes outcome 0 after.records change
  pub noted : Noted
  pub note_is : after.records.noted ≡ Some noted
  pub hosts : IsPut old.hosts new.hosts node
      (record host { state = Up (without_note after); records = host.records ++ noted.octets ∷ [] })
  pub attempts : new.attempts ≡ old.attempts

-- In the world after that some outcome isn't that of an attempt.
abbrev pub InventingBreaks : {D : Type 0} → Type 0 → DiskWords D → Type 0
InventingBreaks {D} honest words =
    (old new : World D) (lists later : List (List Change)) (asked : List Withdrawing) (node change : ℕ)
    → IsBound honest words old lists
    → Invents honest words old new node change → IsBound honest words new later → IsTriedOnce new later asked → ⊥

-- The changes that a running relay keeps, if its world is bound.
use Rattle.std.proofs.Common.{◌≡◌, ◌<◌, ℕ, zero, suc, List, [], ◌∷◌, length, Some, refl, subst, arith}
use Rattle.std.specs.Prelude.{slice_get}
use Rattle.relay_disk.specs.Device.{DiskWords}
use Rattle.relay_book.specs.declared.change.Change.{Change}
use Rattle.relay_records.specs.Records.{Keeps}
use Rattle.relay_loop.specs.Relay.{RelayState}
use Rattle.relay_world.specs.Bound.{IsBound, NodeKeeps, StandsAt, StateKeeps}
use Rattle.relay_world.specs.World.{World}
use Rattle.relay_daemon.specs.Runs.{RunsAt}
use Rattle.relay_daemon.proofs.PutLemmas.{get_within}

pub some_at : {A : Type 0} (xs : List A) (place : ℕ) → place < length xs → (x : A) × (slice_get xs place ≡ Some x)
some_at [] place within = absurd (omega (arith, within))
some_at (x ∷ xs) zero within = (x, refl)
some_at (x ∷ xs) (suc place) within = some_at xs place (omega (arith, within))

module _ {D : Type 0} (honest : Type 0) (words : DiskWords D) (world : World D) (lists : List (List Change)) (node : ℕ)
    (relay : RelayState D) (runs : RunsAt world node relay) (bound : IsBound honest words world lists) where
  pub listed : (changes : List Change) × (slice_get lists node ≡ Some changes)
  listed =
      let even = bound.even in
      let within = get_within world.hosts node runs.host runs.host_at in
      some_at lists node (omega (arith, even, within))

  abbrev pub its_changes : List Change
  its_changes = listed.0

  pub its_stand : StandsAt world lists node runs.host its_changes
  its_stand = record { host_at = runs.host_at; list_at = listed.1 }

  pub its_node_keeps : NodeKeeps honest words runs.host.config relay.node its_changes
  its_node_keeps =
      let kept = bound.hosts node runs.host its_changes its_stand in
      subst (λ h. StateKeeps honest words runs.host.config h its_changes) runs.up kept.holds

  pub its_keeps : Keeps honest words relay.node.records its_changes
  its_keeps = its_node_keeps.keeps

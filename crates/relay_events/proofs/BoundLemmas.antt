-- The hosts of relays that are bound: what a call of one may ask for.
use Rattle.std.proofs.Common.{◌≡◌, ℕ, zero, suc, true, List, [], ◌∷◌, length, Some, refl, arith}
use Rattle.std.specs.Prelude.{slice_get}
use Rattle.std.proofs.lemmas.Bool.{false≢true}
use Rattle.std.proofs.lemmas.Option.{none-some}
use Rattle.relay_disk.specs.Device.{DiskWords}
use Rattle.relay_book.specs.declared.change.Change.{Change}
use Rattle.relay_routes.specs.declared.config.Config.{Config}
use Rattle.relay_world.specs.Bound.{StateKeeps}
use Rattle.relay_world.specs.World.{Down, HostState, Host, Up, World}
use Rattle.relay_hosts.specs.Host.{holds_up}
use Rattle.relay_events.specs.Relays.{AreBound}
use Rattle.relay_hosts.specs.Work.{HasChanges, HoldsChanges}

-- where two lists are of one length, a place of one is a place of the other
pub there_too : {A B : Type 0} (xs : List A) (ys : List B) (place : ℕ) (y : B) → length xs ≡ length ys
    → slice_get ys place ≡ Some y → (x : A) × (slice_get xs place ≡ Some x)
there_too xs [] place y even is = absurd (none-some y is)
there_too [] (one ∷ ys) place y even is = let never : ⊥ = omega (arith, even) in absurd never
there_too (x ∷ xs) (one ∷ ys) zero y even is = (x, refl)
there_too (x ∷ xs) (one ∷ ys) (suc place) y even is = there_too xs ys place y (omega (arith, even)) is

-- a node that is up keeps its list of changes
changes_held : {D : Type 0} (honest : Type 0) (words : DiskWords D) (config : Config) (state : HostState D) (changes : List Change)
    → holds_up state ≡ true → StateKeeps honest words config state changes → HoldsChanges honest words state
changes_held honest words config (Up node) changes up keeps = record { changes = changes; keeps = keeps.keeps }
changes_held honest words config (Down disk undecided) changes up keeps = absurd (false≢true up)

-- so each host that is up does
pub keeps_changes : {D : Type 0} (honest : Type 0) (words : DiskWords D) (world : World D) (node : ℕ) (host : Host D)
    → AreBound honest words world → slice_get world.hosts node ≡ Some host → holds_up host.state ≡ true
    → HasChanges honest words host
keeps_changes honest words world node host bound host_at up =
    let list = there_too bound.lists world.hosts node host bound.bound.even host_at in
    let keeps = bound.bound.hosts node host list.0 (record { host_at = host_at; list_at = list.1 }) in
    changes_held honest words host.config host.state list.0 up keeps.holds

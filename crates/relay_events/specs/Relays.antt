-- Simulated relays as a world, and what holds between two events.
use Rattle.std.specs.Prelude.{◌≡◌, ◌≤◌, ℕ, ◌-◌, List, Some, length, slice_get, vec_capacity, vec_len}
use Rattle.relay_disk.specs.Device.{DiskWords}
use Rattle.relay_book.specs.declared.change.Change.{Change}
use Rattle.relay_world.specs.Bound.{IsBound}
use Rattle.relay_world.specs.GivingUp.{Withdrawing}
use Rattle.relay_world.specs.HopLinks.{AreLinkedToHops}
use Rattle.relay_world.specs.Lines.{HasSources}
use Rattle.relay_world.specs.Once.{IsTriedOnce}
use Rattle.relay_world.specs.World.{Host, World}
use Rattle.relay_events.specs.declared.relays.Relays.{Relays}
use Rattle.relay_hosts.specs.Room.{HasRoom}
use Rattle.relay_events.specs.Told.{LearnsOfBreaks}

abbrev pub world_of : {D : Type 0} → Relays D → World D
world_of relays = record {
  hosts = relays.hosts.items;
  links = relays.links.items;
  attempts = relays.attempts.items;
  ledger = relays.ledger.items;
  clock = relays.clock;
}

-- how many more lines the ledger has room for
abbrev pub free_lines : {D : Type 0} → Relays D → ℕ
free_lines relays = vec_capacity relays.ledger - vec_len relays.ledger

-- no two nodes have the same name
abbrev pub HaveOwnNames : {D : Type 0} → List (Host D) → Type 0
HaveOwnNames {D} hosts =
    (one other : ℕ) (host others : Host D) → slice_get hosts one ≡ Some host → slice_get hosts other ≡ Some others
    → host.config.host ≡ others.config.host → one ≡ other

-- The relays are bound by lists of changes, try each place once at a time, have withdrawn what the postmaster has asked
-- for, and have the links that they are meant to have, lines with their sources, and names of their own. There are 16
-- at most.
pub record AreBound {D : Type 0} (honest : Type 0) (words : DiskWords D) (world : World D) : Type 0 where
  pub lists : List (List Change)
  pub bound : IsBound honest words world lists
  pub asked : List Withdrawing
  pub once : IsTriedOnce world lists asked
  pub linked : AreLinkedToHops world
  pub sources : HasSources world lists
  pub named : HaveOwnNames world.hosts
  pub few : length world.hosts ≤ 16

-- All this holds between two events; moreover nodes are notified of each broken link, and there is room for what may
-- come.
pub record AreInOrder {D : Type 0} (honest : Type 0) (words : DiskWords D) (relays : Relays D) : Type 0 where
  pub bound : AreBound honest words (world_of relays)
  pub told : LearnsOfBreaks (world_of relays)
  pub room : HasRoom (world_of relays) (free_lines relays)

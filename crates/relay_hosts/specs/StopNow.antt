-- A node that is down and stops again, and a device fault that is set for a later call.
use Rattle.std.specs.Prelude.{◌≡◌, ℕ, List, Some}
use Rattle.relay_disk.specs.Device.{DiskWords}
use Rattle.relay_disk.specs.Disks.{ImagesWithin, LosesFuseOrNot, calls_left_of}
use Rattle.relay_book.specs.declared.change.Change.{Change}
use Rattle.relay_records.specs.Records.{Keeps}
use Rattle.relay_node.specs.Node.{IsFused, NodeState}
use Rattle.relay_world.specs.World as world
use Rattle.relay_world.specs.World.{Host}
use Rattle.relay_hosts.specs.declared.host.DownNode.{DownNode}
use Rattle.relay_hosts.specs.declared.host.HostState.{HostState}
use Rattle.relay_hosts.specs.declared.host.HostState.TheVariants.{Up, Down}

-- a node that was down has stopped again
pub record DownStops {D : Type 0} (honest : Type 0) (words : DiskWords D) (old new : DownNode D) : Type 0 where
  pub config : new.config ≡ old.config
  pub undecided : new.undecided ≡ old.undecided
  pub left : honest → ImagesWithin words old.disk new.disk
  pub fuse : LosesFuseOrNot words old.disk new.disk

abbrev pub StateStopsAgain : {D : Type 0} → Type 0 → DiskWords D → HostState D → HostState D → Type 0
StateStopsAgain honest words (Up before) new = ⊥
StateStopsAgain honest words (Down was) (Up after) = ⊥
StateStopsAgain honest words (Down was) (Down now) = DownStops honest words was now

module _ {D : Type 0} (honest : Type 0) (words : DiskWords D) where
  -- a device fault was set for a node that is up: after this many calls of its disks the next one fails
  pub record IsArmed (old new : Host D) (calls : ℕ) : Type 0 where
    pub before : NodeState D
    pub up : old.state ≡ world.Up before
    pub after : NodeState D
    pub fused : IsFused before.records after.records
    pub keeps : (changes : List Change) → Keeps honest words before.records changes
        → Keeps honest words after.records changes
    pub config : after.config ≡ before.config
    pub seats : after.seats ≡ before.seats
    pub attempts : after.attempts ≡ before.attempts
    pub calls_left : calls_left_of words after.records.spool.disk ≡ Some calls
    pub new_is : new ≡ record old { state = world.Up after }

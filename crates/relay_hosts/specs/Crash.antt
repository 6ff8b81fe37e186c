-- The effect of a stop on one host, between two calls or in one, and of its opening.
use Rattle.std.specs.Prelude.{◌≡◌, ◌⊎◌, ◌≤◌, ◌<◌, ℕ, Bool, true, false, List, [], ◌∷◌, ◌++◌, Option, None, Some}
use Rattle.std.specs.Option.{is_some, option_map}
use Rattle.relay_disk.specs.Device.{DiskWords}
use Rattle.relay_disk.specs.declared.disks.Disks.{Disks}
use Rattle.relay_disk.specs.Disks.{ImagesWithin, LosesFuseOrNot, seen_of}
use Rattle.relay_spool.specs.Spool.{PassesAny}
use Rattle.relay_records.specs.declared.noted.Noted.{Noted}
use Rattle.relay_records.specs.declared.fault.Cause.{Cause}
use Rattle.relay_records.specs.Open.{FailsFor, Opens, RefusesImage}
use Rattle.relay_node.specs.Node.{IsIdle, NodeState}
use Rattle.relay_world.specs.Stops.{IsLeftBy}
use Rattle.relay_world.specs.World as world
use Rattle.relay_hosts.specs.declared.host.DownNode.{DownNode}
use Rattle.relay_hosts.specs.declared.host.HostState.{HostState}
use Rattle.relay_hosts.specs.declared.host.HostState.TheVariants.{Up, Down}
use Rattle.relay_hosts.specs.declared.host.Origin.{Origin}
use Rattle.relay_hosts.specs.declared.host.Undecided.{Undecided}
use Rattle.relay_hosts.specs.Host.{host_of, origin_in, undecided_in}

-- the node has stopped in a call, and has a note of the change that it was adding
abbrev pub IsCutShort : {D : Type 0} → world.HostState D → Type 0
IsCutShort (world.Up node) = (node.records.spool.live ≡ false) × (is_some node.records.noted ≡ true)
IsCutShort (world.Down disk undecided) = ⊥

-- whether the host, given as its parts, is up
abbrev pub is_up_now : {D : Type 0} → HostState D → Bool
is_up_now (Up node) = true
is_up_now (Down down) = false

abbrev pub WasCutShort : {D : Type 0} → HostState D → Type 0
WasCutShort (Up node) = (node.records.spool.live ≡ false) × (is_some node.records.noted ≡ true)
WasCutShort (Down down) = ⊥

-- an undecided change without its record
abbrev pub without_octets : Undecided → Undecided
without_octets undecided = record undecided { note = record undecided.note { octets = [] } }

-- A node that was opened has the undecided change exactly if its next number is greater than the change's own: then the
-- change's record follows the others, and the change is found.
abbrev pub Decided : {D : Type 0} → NodeState D → List (List ℕ) → Option Undecided → world.Host D → Option Undecided
    → Type 0
Decided node records None host None = host ≡ host_of node records
Decided node records None host (Some found) = ⊥
Decided node records (Some undecided) host None =
    (node.records.queue.next ≤ undecided.note.number) × (host ≡ host_of node records)
Decided node records (Some undecided) host (Some found) =
    (undecided.note.number < node.records.queue.next) × (found ≡ without_octets undecided)
    × (host ≡ host_of node (records ++ undecided.note.octets ∷ []))

-- a node that was up stopped between two calls, and left this configuration and these disks
pub record NodeStops {D : Type 0} (honest : Type 0) (words : DiskWords D) (before : NodeState D) (new : DownNode D)
    : Type 0 where
  pub config : new.config ≡ before.config
  pub left : IsLeftBy honest words before.records new.disk
  pub none : new.undecided ≡ None

-- a node that was up stopped in a call, and left this configuration and these disks
pub record NodeCrashes {D : Type 0} (honest : Type 0) (words : DiskWords D) (before : NodeState D) (new : DownNode D)
    (origin : Origin) : Type 0 where
  pub config : new.config ≡ before.config
  pub left : IsLeftBy honest words before.records new.disk
  pub noted : Noted
  pub note_is : before.records.noted ≡ Some noted
  pub some : new.undecided ≡ Some (record { note = noted; origin = origin })

abbrev pub StateStops : {D : Type 0} → Type 0 → DiskWords D → HostState D → HostState D → Type 0
StateStops honest words (Up before) (Up after) = ⊥
StateStops honest words (Up before) (Down down) = NodeStops honest words before down
StateStops honest words (Down was) new = ⊥

abbrev pub StateCrashes : {D : Type 0} → Type 0 → DiskWords D → HostState D → HostState D → Origin → Type 0
StateCrashes honest words (Up before) (Up after) origin = ⊥
StateCrashes honest words (Up before) (Down down) origin = NodeCrashes honest words before down origin
StateCrashes honest words (Down was) new origin = ⊥

module _ {D : Type 0} (honest : Type 0) (words : DiskWords D) (old new : world.Host D) where
  -- A host that was up is down, stopped between two calls; a further stop of its disks leaves no more than this one.
  pub record StopsAtRest : Type 0 where
    pub before : NodeState D
    pub up : old.state ≡ world.Up before
    pub disk : Disks D
    pub left : IsLeftBy honest words before.records disk
    pub new_is : new ≡ record old { state = world.Down disk None }

  -- A host that stopped in a call is down, with such disks, and the change that it was adding is undecided.
  pub record CrashesInCall (origin : Origin) : Type 0 where
    pub before : NodeState D
    pub up : old.state ≡ world.Up before
    pub noted : Noted
    pub note_is : before.records.noted ≡ Some noted
    pub disk : Disks D
    pub left : IsLeftBy honest words before.records disk
    pub new_is : new
        ≡ record old { state = world.Down disk (Some (record { note = noted; origin = origin_in origin })) }

  -- A host that was down is up; the undecided change was found or not.
  pub record ComesUp (found : Option Undecided) : Type 0 where
    pub disk : Disks D
    pub undecided : Option Undecided
    pub down : old.state ≡ world.Down disk (option_map undecided_in undecided)
    pub after : NodeState D
    pub opens : Opens honest words disk after.records
    pub idle : IsIdle old.config after
    pub decides : Decided after old.records undecided new found

  -- A host that is down stays down; a further stop of its disks leaves no more than before.
  pub record StaysSo (found : Option Undecided) : Type 0 where
    pub disk : Disks D
    pub undecided : Option world.Undecided
    pub down : old.state ≡ world.Down disk undecided
    pub again : Disks D
    pub left : honest → ImagesWithin words disk again
    pub new_is : new ≡ record old { state = world.Down again undecided }
    pub none : found ≡ None

  -- A host that is down has stopped again. A device fault that was set for a later call is gone; if memory ran out, it
  -- is as it was.
  pub record StopsAgain : Type 0 where
    pub stays : StaysSo None
    pub fuse : LosesFuseOrNot words stays.disk stays.again

  -- A host that is down couldn't be opened: its disks were refused, for this cause.
  pub record IsRefused (found : Option Undecided) : Type 0 where
    pub stays : StaysSo found
    pub cause : Cause
    pub why : RefusesImage honest (seen_of words stays.disk) cause
    pub failures : FailsFor words stays.disk stays.again cause
    pub calls : PassesAny words stays.disk stays.again

  abbrev pub OpensOrNot : Option Undecided → Type 0
  OpensOrNot found = ComesUp found ⊎ IsRefused found

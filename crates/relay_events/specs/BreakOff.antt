-- Breaking a link.
use Rattle.std.specs.Prelude.{◌≡◌, ℕ, Result, Some}
use Rattle.relay_disk.specs.Device.{DiskWords}
use Rattle.relay_records.specs.declared.fault.NodeFault.{NodeFault}
use Rattle.relay_world.specs.Steps.{Breaks}
use Rattle.relay_world.specs.declared.link.Link.{Link}
use Rattle.relay_world.specs.World.{World, link_at}
use Rattle.relay_events.specs.declared.fault.PairFault.{PairFault}
use Rattle.relay_events.specs.declared.seen.Seen.{Seen}
use Rattle.relay_events.specs.Step.{IsSeen, Refuses, fault_of}
use Rattle.relay_events.specs.Told.{AreTold}

-- there is a link of this number
pub record IsLink {D : Type 0} (world : World D) (number : ℕ) : Type 0 where
  pub link : Link
  pub link_is : link_at world.links number ≡ Some link

-- The link of this number breaks, and nodes are notified of it. The result is the node's fault, unless nodes have
-- stopped.
pub record BreaksAfter {D : Type 0} (honest : Type 0) (words : DiskWords D) (old new : World D) (number : ℕ)
    (why : NodeFault) (answer : Result Seen PairFault) : Type 0 where
  pub middle : World D
  pub breaks : Breaks old middle number
  pub told : AreTold honest words middle new
  pub seen : IsSeen (Refuses (fault_of why)) told.stopped answer

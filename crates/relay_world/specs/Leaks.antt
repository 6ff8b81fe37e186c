-- Nothing leaks at a node that is up: each occupied seat has a link on which its session goes on, and each attempt
-- number in use has a running attempt. So no seat or number is lost for good.
use Rattle.std.specs.Prelude.{◌≡◌, ◌≢◌, ℕ, None, Some, slice_get}
use Rattle.relay_node.specs.Node.{NodeState}
use Rattle.relay_slots.specs.Slots.{slot_at}
use Rattle.relay_world.specs.declared.attempt.Attempt.{Attempt}
use Rattle.relay_world.specs.declared.link.Link.{Link}
use Rattle.relay_world.specs.Bound.{HasSession, HasSlot}
use Rattle.relay_world.specs.World.{Host, Up, World, link_at}

-- a link has the node's session of this number
pub record GoesOnThere {D : Type 0} (world : World D) (node session : ℕ) : Type 0 where
  pub number : ℕ
  pub link : Link
  pub is_there : link_at world.links number ≡ Some link
  pub has : HasSession link node session

-- an attempt of the node runs under this number
pub record RunsThere {D : Type 0} (world : World D) (node slot : ℕ) : Type 0 where
  pub place : ℕ
  pub attempt : Attempt
  pub is_there : slice_get world.attempts place ≡ Some attempt
  pub has : HasSlot attempt node slot

-- Each occupied seat of a node that is up belongs to the session of a link, and each attempt number in use to a running
-- attempt.
pub record NothingLeaks {D : Type 0} (world : World D) : Type 0 where
  pub seats : (node : ℕ) (host : Host D) (standing : NodeState D) → slice_get world.hosts node ≡ Some host
      → host.state ≡ Up standing → (session : ℕ) → slot_at standing.seats session ≢ None
      → GoesOnThere world node session
  pub runs : (node : ℕ) (host : Host D) (standing : NodeState D) → slice_get world.hosts node ≡ Some host
      → host.state ≡ Up standing → (slot : ℕ) → slot_at standing.attempts slot ≢ None → RunsThere world node slot

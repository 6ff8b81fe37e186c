-- A relay that runs in a world: it is the node of a host there, each of its connections is an end of a link, and what
-- is still to be written to a connection is the end of what that end of the link has written.
use Rattle.std.specs.Prelude.{◌≡◌, ℕ, false, List, ◌∷◌, [], ◌++◌, Some, None, slice_get, slice_set}
use Rattle.relay_slots.specs.Slots.{slot_at}
use Rattle.relay_records.specs.declared.noted.Noted.{Noted}
use Rattle.relay_node.specs.Node.{NodeState}
use Rattle.relay_loop.specs.Relay.{RelayState}
use Rattle.relay_world.specs.declared.attempt.Attempt.{Attempt}
use Rattle.relay_world.specs.declared.link.Link.{Link}
use Rattle.relay_world.specs.Bound.{HasSession, HasSlot}
use Rattle.relay_world.specs.Steps.{without_note}
use Rattle.relay_world.specs.World.{Host, Up, World, link_at}

-- these octets end with those that are still to be written to the connection
abbrev pub EndsIn : List ℕ → List ℕ → Type 0
EndsIn octets waiting = (written : List ℕ) × (octets ≡ written ++ waiting)

module _ {D : Type 0} (world : World D) (node : ℕ) where
  -- The connection of this session is the server end of a link, at this node. Unless the link is broken, what the node
  -- has written on it is what was written to the connection, and then what is still to be written.
  pub record ServesClient (session : ℕ) (waiting : List ℕ) : Type 0 where
    pub number : ℕ
    pub link : Link
    pub link_is : link_at world.links number ≡ Some link
    pub has : HasSession link node session
    pub unwritten : link.broken ≡ false → EndsIn link.down waiting

  -- The connection of this attempt is the client end of a link, for an attempt of this node that runs. Unless the link
  -- is broken, what the attempt has written on it is what was written to the connection, and then what is still to be
  -- written.
  pub record ReachesHop (slot : ℕ) (waiting : List ℕ) : Type 0 where
    pub place : ℕ
    pub attempt : Attempt
    pub attempt_at : slice_get world.attempts place ≡ Some attempt
    pub has : HasSlot attempt node slot
    pub link : Link
    pub link_is : link_at world.links attempt.link ≡ Some link
    pub client : link.client ≡ Some place
    pub unwritten : link.broken ≡ false → EndsIn link.up waiting

  -- The relay runs at the host of this index, which is up with the relay's node. Each connection of a client, and each
  -- to a next hop, is an end of a link, and no session or attempt is without its connection.
  pub record RunsAt (relay : RelayState D) : Type 0 where
    pub host : Host D
    pub host_at : slice_get world.hosts node ≡ Some host
    pub up : host.state ≡ Up relay.node
    pub clients : (session : ℕ) (waiting : List ℕ) → slot_at relay.clients session ≡ Some waiting
        → ServesClient session waiting
    pub hops : (slot : ℕ) (waiting : List ℕ) → slot_at relay.hops slot ≡ Some waiting → ReachesHop slot waiting
    pub seats : (session : ℕ) → slot_at relay.clients session ≡ None → slot_at relay.node.seats session ≡ None
    pub runs : (slot : ℕ) → slot_at relay.hops slot ≡ None → slot_at relay.node.attempts slot ≡ None

-- the world with this host at the index
abbrev pub with_host : {D : Type 0} → World D → ℕ → Host D → World D
with_host world node host = record world { hosts = slice_set world.hosts node host }

-- the host, up with this node
abbrev pub host_with : {D : Type 0} → Host D → NodeState D → Host D
host_with host node = record host { state = Up node }

-- the host, up with this node, which has recorded a change: its note was taken, and its record follows the earlier ones
abbrev pub host_with_note : {D : Type 0} → Host D → NodeState D → Noted → Host D
host_with_note host node noted =
    record host { state = Up (without_note node); records = host.records ++ noted.octets ∷ [] }

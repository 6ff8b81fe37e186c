-- Where attempts lead: the link of an attempt goes to the node that has the hop's name, or to outside if no node has
-- it.
use Rattle.std.specs.Prelude.{◌≡◌, ◌≢◌, ℕ, [], None, Some, slice_get}
use Rattle.relay_world.specs.declared.attempt.Attempt.{Attempt}
use Rattle.relay_world.specs.declared.link.Link.{Link}
use Rattle.relay_world.specs.declared.link.ServerEnd.{ServerEnd}
use Rattle.relay_world.specs.World.{Host, World, link_at}

-- the server end of the attempt's link is at this node, with the address at which the attempt's own node listens as the
-- client's
pub record LeadsTo {D : Type 0} (world : World D) (attempt : Attempt) (link : Link) (node : ℕ) : Type 0 where
  pub end : ServerEnd
  pub serves : link.server ≡ Some end
  pub its_node : end.node ≡ node
  pub from : (opener : Host D) → slice_get world.hosts attempt.node ≡ Some opener
      → end.peer ≡ opener.config.listen.ip.octets

-- The attempt has the right link: to the node that has the hop's name, or to outside if no node has it.
pub record IsLinkedToHop {D : Type 0} (world : World D) (attempt : Attempt) : Type 0 where
  pub link : Link
  pub its_link : link_at world.links attempt.link ≡ Some link
  pub to_node : (node : ℕ) (host : Host D) → slice_get world.hosts node ≡ Some host → host.config.host ≡ attempt.hop
      → LeadsTo world attempt link node
  pub to_outside
      : ((node : ℕ) (host : Host D) → slice_get world.hosts node ≡ Some host → host.config.host ≢ attempt.hop)
      → link.server ≡ None

-- each attempt has the right link
abbrev pub AreLinkedToHops : {D : Type 0} → World D → Type 0
AreLinkedToHops world =
    (at : ℕ) (attempt : Attempt) → slice_get world.attempts at ≡ Some attempt → IsLinkedToHop world attempt

-- In a world without attempts this holds.
abbrev pub HopLinksAtFirst : Type 0 → Type 0
HopLinksAtFirst D = (world : World D) → world.attempts ≡ [] → AreLinkedToHops world

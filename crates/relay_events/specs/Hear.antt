-- The effect of a node hearing octets of a link.
use Rattle.std.specs.Prelude.{◌≡◌, ◌⊎◌, ◌<◌, ◌≤◌, ◌++◌, ℕ, ◌+◌, ◌-◌, true, false, length, Option, Some, slice_set}
use Rattle.relay_disk.specs.Device.{DiskWords}
use Rattle.relay_node.specs.declared.receive.Received.{Received}
use Rattle.relay_world.specs.declared.link.Link.{Link}
use Rattle.relay_world.specs.Crashes.{serves_for}
use Rattle.relay_world.specs.HangUp.{broken_link}
use Rattle.relay_world.specs.Steps.{SessionOf, waiting_up}
use Rattle.relay_world.specs.World.{Host, World, link_at}
use Rattle.relay_hosts.specs.declared.calls.Heard.{Heard}
use Rattle.relay_events.specs.declared.fault.PairFault.TheVariants as fault
use Rattle.relay_hosts.specs.declared.recorded.Recorded.{Recorded}
use Rattle.relay_events.specs.declared.seen.Seen.TheVariants as seen
use Rattle.relay_hosts.specs.Call.{HearsOrNot}
use Rattle.relay_events.specs.Step.{Did, Refuses, Shows}
use Rattle.relay_hosts.specs.Links.{hears_on, waits_up}
use Rattle.relay_hosts.specs.Heard.{accept_lines, heard_on}

-- a node has the server end of an unbroken link, with a running session, and octets for it are unread
pub record WaitsAt {D : Type 0} (world : World D) (number node : ℕ) : Type 0 where
  pub link : Link
  pub link_is : link_at world.links number ≡ Some link
  pub whole : link.broken ≡ false
  pub serves : serves_for node link.server ≡ true
  pub hears : hears_on link.server ≡ true
  pub waits : waits_up link ≡ true

-- the link is whole, and at least this many octets are unread at its server end
pub record MayRead {D : Type 0} (world : World D) (number used : ℕ) : Type 0 where
  pub link : Link
  pub link_is : link_at world.links number ≡ Some link
  pub whole : link.broken ≡ false
  pub within : link.up_read + used ≤ length link.up

-- The node of a session was called to hear unread octets. Nothing else has changed yet.
pub record IsCalledToHear {D : Type 0} (honest : Type 0) (words : DiskWords D) (old new : World D) (number count : ℕ)
    (heard : Heard) : Type 0
  where
    pub of : SessionOf old number
    pub now : Host D
    pub hears : HearsOrNot honest words old.clock of.host now of.session (waiting_up count of.link) heard
    pub new_is : new ≡ record old { hosts = slice_set old.hosts of.end.node now }

-- the world with this link after such a call, and the ledger line of an accept
abbrev pub world_heard : {D : Type 0} → World D → ℕ → ℕ → Link → Received → Option Recorded → World D
world_heard old number node link received recorded = record old {
  links = slice_set old.links (number - 1) (heard_on link received);
  ledger = old.ledger ++ accept_lines node number received.change recorded;
}

-- The heard octets are marked as read, and an accept is in the ledger. The replies are written and their length
-- returned; or memory for them ran out, and the link is broken.
pub record TakesHeard {D : Type 0} (old new : World D) (number node : ℕ) (received : Received)
    (recorded : Option Recorded) (did : Did) : Type 0
  where
    pub link : Link
    pub link_is : link_at old.links number ≡ Some link
    pub whole : link.broken ≡ false
    pub takes : ((new ≡ world_heard old number node link received recorded)
        × (did ≡ Shows (seen.Carried received.used (length received.out.items) received.change received.close)))
        ⊎ ((new ≡ world_heard old number node (broken_link link) received recorded) × (did ≡ Refuses fault.NoMemory)
        × (0 < length received.out.items))

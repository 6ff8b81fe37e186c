-- Connections to next hops with octets that were not read to the end: the system won't report these again, so the relay
-- mustn't wait before they are used.
use Rattle.std.specs.Prelude.{◌≡◌, ◌≢◌, ℕ, List, [], Option, None, Some}
use Rattle.relay_slots.specs.Slots.{slot_at}
use Rattle.relay_loop.specs.Outboxes.{unwritten_at}
use Rattle.relay_loop.specs.Relay.{RelayState}
use Rattle.relay_connections.specs.Channel.{noted, unread_of}
use Rattle.relay_connections.specs.declared.channel.Readiness.{Readiness}
use Rattle.relay_next_hops.specs.declared.hop.Hop.{Hop}
use Rattle.relay_next_hops.specs.declared.next_hops.NextHops.{NextHops}

-- the connection after the system has reported what it may be ready for: this too, and nothing else has changed
abbrev pub noted_hop : {S : Type 0} → Readiness → Hop S → Hop S
noted_hop reported hop = record hop { channel = noted reported hop.channel }

-- the connection in a slot, if there is one, has noted what the system reports
abbrev pub IsNoted : {S : Type 0} → Readiness → Option (Hop S) → Option (Hop S) → Type 0
IsNoted reported None new = new ≡ None
IsNoted reported (Some hop) new = new ≡ Some (noted_hop reported hop)

-- the connections to next hops, by number
abbrev pub hops_of : {S : Type 0} → NextHops S → List (Option (Hop S))
hops_of next_hops = next_hops.hops.hops

-- the connection of this number, whose attempt is running, has octets that were not read to the end, and nothing is
-- unwritten for it
pub record IsLeftHop {S D : Type 0} (hops : List (Option (Hop S))) (relay : RelayState D) (number : ℕ) : Type 0 where
  pub hop : Hop S
  pub there : slot_at hops number ≡ Some hop
  pub unread : unread_of hop.channel ≢ []
  pub attempt : ℕ
  pub runs : hop.attempt ≡ Some attempt
  pub written : unwritten_at relay.hops attempt ≡ []

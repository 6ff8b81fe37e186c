-- What a postmaster asks of queued mail: to try it now, to hold it, and to release it.
use Rattle.std.specs.Prelude.{◌≡◌, ◌&&◌, ◌==◌, ℕ, Bool, true, false, not, List, Option, None, Some}
use Rattle.std.specs.Prelude.{MatchOption, bytes_eq, count_by, slice_get}
use Rattle.std.specs.Option.{option_and_then, option_map_or}
use Rattle.std.specs.declared.net.socket_addr.SocketAddrV4.{SocketAddrV4}
use Rattle.relay_routes.specs.declared.hop.Hop.{Hop as NextHop}
use Rattle.relay_book.specs.Queue.{message_of}
use Rattle.relay_control.specs.Held.{holds}
use Rattle.relay_control.specs.declared.held.Held.{Held}
use Rattle.relay_control.specs.declared.scope.Scope.{Scope}
use Rattle.relay_control.specs.declared.scope.Scope.TheVariants.{Hop as ForHop, Message as ForMessage}
use Rattle.relay_files.specs.declared.fault.Fault.{Fault}
use Rattle.relay_files.specs.declared.fault.Fault.TheVariants.{Device, NoMemory}
use Rattle.relay_node.specs.Node.{NodeState}
use Rattle.relay_lanes.specs.Paces.{IsHeldAt}
use Rattle.relay_next_hops.specs.Listing.{HasEarlyTurn, route_of}
use Rattle.relay_next_hops.specs.declared.hop.Hop.{Hop}
use Rattle.relay_next_hops.specs.declared.lanes.Lanes.{Lanes}
use Rattle.relay_next_hops.specs.declared.next_hops.NextHops.{NextHops}

-- this mail is held
abbrev pub with_held : Held → Lanes → Lanes
with_held held lanes = record lanes { held = held }

-- this mail is held, and all due mail is listed again at the next turn
abbrev pub relisted : Held → Lanes → Lanes
relisted held lanes = record lanes { held = held; is_stale = true; next_listing = 0; is_open = true }

-- the same connections to next hops, with these lanes
abbrev pub with_lanes : {S : Type 0} → Lanes → NextHops S → NextHops S
with_lanes lanes next_hops = record next_hops { lanes = lanes }

-- the mail of this message for the next hop of this name is asked for; if nothing is named, all mail is
abbrev pub is_asked : Option Scope → ℕ → List ℕ → Bool
is_asked None message name = true
is_asked (Some (ForHop asked)) message name = bytes_eq name asked
is_asked (Some (ForMessage asked)) message name = message == asked

-- the next hop of a place that is queued, by the numbers of its message and of the place
abbrev pub hop_of_mark : {D : Type 0} → NodeState D → ℕ × ℕ → Option NextHop
hop_of_mark node mark =
    option_and_then (λ message. route_of node.config.routes message.accept.envelope.recipients mark.1)
    (message_of node.records.queue.messages mark.0)

-- a flush lists this held place: it has a next hop, is asked for, and no postmaster holds it
abbrev pub is_flushed : {D : Type 0} → NodeState D → Held → Option Scope → ℕ × ℕ → Bool
is_flushed node held scope mark =
    option_map_or (λ hop. is_asked scope mark.0 hop.name && not (holds hop.name mark.0 held)) (hop_of_mark node mark)
    false

-- a task for this place that begins early is in the lane of its next hop, or there is a connection for it
abbrev pub IsFlushed : {D S : Type 0} → NodeState D → List (Option (Hop S)) → ℕ × ℕ → Lanes → Type 0
IsFlushed node hops mark lanes =
    MatchOption (hop_of_mark node mark) ⊥ (λ hop. HasEarlyTurn hops mark.0 hop.name hop.at lanes)

-- Of these held places each is listed that a flush lists, due or not; this many are.
pub record FlushesEach {D S : Type 0} (node : NodeState D) (hops : List (Option (Hop S))) (held : Held)
    (scope : Option Scope) (marks : List (ℕ × ℕ)) (count : ℕ) (lanes : Lanes) : Type 0 where
  pub count_is : count ≡ count_by (is_flushed node held scope) marks
  pub each : (step : ℕ) (mark : ℕ × ℕ) → slice_get marks step ≡ Some mark → is_flushed node held scope mark ≡ true
      → IsFlushed node hops mark lanes

-- the lane of this address isn't on hold at a tick
abbrev pub IsOffHold : ℕ → SocketAddrV4 → Lanes → Type 0
IsOffHold tick at lanes =
    (lane : ℕ) × (slice_get lanes.places lane ≡ Some at) × (IsHeldAt tick lanes.paces lane → ⊥)

-- the next hop of this held place isn't on hold
abbrev pub EndsHold : {D : Type 0} → NodeState D → ℕ → ℕ × ℕ → Lanes → Type 0
EndsHold node tick mark lanes = MatchOption (hop_of_mark node mark) ⊥ (λ hop. IsOffHold tick hop.at lanes)

-- no next hop is on hold of those of these places that a flush lists
abbrev pub EndsHolds : {D : Type 0} → NodeState D → ℕ → Held → Option Scope → List (ℕ × ℕ) → Lanes → Type 0
EndsHolds node tick held scope marks lanes = (step : ℕ) (mark : ℕ × ℕ) → slice_get marks step ≡ Some mark
    → is_flushed node held scope mark ≡ true → EndsHold node tick mark lanes

-- not all was flushed, for this reason: the device has failed before, or memory ran out
abbrev pub CantFlush : {D : Type 0} → NodeState D → Fault → Type 0
CantFlush node Device = node.records.spool.live ≡ false
CantFlush node NoMemory = Unit {0}
CantFlush node other = ⊥

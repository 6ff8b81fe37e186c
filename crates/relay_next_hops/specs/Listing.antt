-- What is listed of a message: each due place that no postmaster holds, by a task in the lane of its next hop; and the
-- message as one to be given up, if one of its queued places has no next hop, or is held by a postmaster and its time is
-- over.
use Rattle.std.specs.Prelude.{◌≡◌, ◌⊎◌, ◌+◌, ◌<◌, ◌≤◌, ℕ, Bool, true, false, List, [], Option, Some}
use Rattle.std.specs.Prelude.{MatchOption, drop, length, slice_get}
use Rattle.std.specs.List.{list_any}
use Rattle.std.specs.Option.{option_and_then}
use Rattle.std.specs.declared.net.socket_addr.SocketAddrV4.{SocketAddrV4}
use Rattle.relay_slots.specs.Slots.{slot_at}
use Rattle.relay_envelope.specs.declared.envelope.Recipient.{Recipient}
use Rattle.relay_routes.specs.Routes.{RouteTable, hop_at}
use Rattle.relay_routes.specs.declared.hop.Hop.{Hop as NextHop}
use Rattle.relay_book.specs.DueReport.{patience}
use Rattle.relay_book.specs.Queue.{message_of}
use Rattle.relay_book.specs.declared.change.Accept.{Accept as AcceptFields}
use Rattle.relay_book.specs.declared.message.Place.{Place}
use Rattle.relay_control.specs.Held.{holds}
use Rattle.relay_node.specs.Node.{NodeState}
use Rattle.relay_lanes.specs.Lane.{is_early_for, is_for}
use Rattle.relay_lanes.specs.declared.lane.Task.{Task}
use Rattle.relay_next_hops.specs.Lanes.{IsListedUnroutable, tasks_at}
use Rattle.relay_next_hops.specs.declared.hop.Hop.{Hop}
use Rattle.relay_next_hops.specs.declared.lanes.Lanes.{Lanes}
use Rattle.relay_next_hops.specs.declared.listing.TheConstants.{PART_SIZE}

-- a task for this message and next hop is in the lane of this number
abbrev pub Waits : ℕ → List ℕ → Lanes → ℕ → Type 0
Waits message name lanes lane = list_any (is_for message name) (tasks_at lanes lane) ≡ true

-- a task for this message and next hop that was asked for early is in the lane of this number
abbrev pub WaitsEarly : ℕ → List ℕ → Lanes → ℕ → Type 0
WaitsEarly message name lanes lane = list_any (is_early_for message name) (tasks_at lanes lane) ≡ true

-- there is a connection for this message and next hop, in the lane of this number
pub record HasConnection {S : Type 0} (hops : List (Option (Hop S))) (message : ℕ) (name : List ℕ) (lane : ℕ)
    : Type 0 where
  pub number : ℕ
  pub hop : Hop S
  pub there : slot_at hops number ≡ Some hop
  pub its_message : hop.message ≡ message
  pub its_name : hop.name ≡ name
  pub its_lane : hop.aim.lane ≡ lane

-- the due mail of this message for this next hop is in the lane of the hop's address, or has a connection there
abbrev pub HasTurn : {S : Type 0} → List (Option (Hop S)) → ℕ → List ℕ → SocketAddrV4 → Lanes → Type 0
HasTurn hops message name at lanes = (lane : ℕ) × (slice_get lanes.places lane ≡ Some at)
    × (Waits message name lanes lane ⊎ HasConnection hops message name lane)

-- the same, where the task was asked for early
abbrev pub HasEarlyTurn : {S : Type 0} → List (Option (Hop S)) → ℕ → List ℕ → SocketAddrV4 → Lanes → Type 0
HasEarlyTurn hops message name at lanes = (lane : ℕ) × (slice_get lanes.places lane ≡ Some at)
    × (WaitsEarly message name lanes lane ⊎ HasConnection hops message name lane)

-- What was listed stays listed, in its lane or as a message to be given up; or all due mail is to be listed again.
pub record KeepsListed (old new : Lanes) : Type 0 where
  pub tasks : (test : Task → Bool) (lane : ℕ) → list_any test (tasks_at old lane) ≡ true
      → list_any test (tasks_at new lane) ≡ true
  pub unroutable : (message : ℕ) → IsListedUnroutable message old → IsListedUnroutable message new
  pub stale : old.is_stale ≡ true → new.is_stale ≡ true

-- it is listed or has a connection, or all due mail is to be listed again
abbrev pub IsListedFor : {S : Type 0} → List (Option (Hop S)) → ℕ → List ℕ → SocketAddrV4 → Lanes → Type 0
IsListedFor hops message name at lanes = HasTurn hops message name at lanes ⊎ (lanes.is_stale ≡ true)

-- the next hop of a message's place, if it has one
abbrev pub route_of : RouteTable → List Recipient → ℕ → Option NextHop
route_of table recipients place =
    option_and_then (λ recipient. hop_at table recipient.path) (slice_get recipients place)

-- Below: at a time, with these connections to next hops.
module _ {S : Type 0} (hops : List (Option (Hop S))) (moment : ℕ) where
  -- Due mail of a message for a next hop is listed there, unless a postmaster holds it. If one does, and the message was
  -- accepted five days ago, or before, the message is listed as one to be given up.
  abbrev pub IsDueListed : ℕ → ℕ → NextHop → Lanes → Type 0
  IsDueListed message accepted hop lanes =
      (holds hop.name message lanes.held ≡ false → IsListedFor hops message hop.name hop.at lanes)
      × (holds hop.name message lanes.held ≡ true → accepted + patience ≤ moment → IsListedUnroutable message lanes)

  -- A queued place of a message is listed: if it has no next hop, the message is to be given up; if it is due, it is
  -- listed for its next hop so.
  abbrev pub IsPlaceListed : RouteTable → ℕ → AcceptFields → ℕ → Place → Lanes → Type 0
  IsPlaceListed table message accept index place lanes = place.held ≡ true
      → MatchOption (route_of table accept.envelope.recipients index) (IsListedUnroutable message lanes)
      (λ hop. place.due ≤ moment → IsDueListed message accept.at hop lanes)

  -- this many of its places are listed, from the first on
  abbrev pub ArePlacesListed : RouteTable → ℕ → AcceptFields → List Place → ℕ → Lanes → Type 0
  ArePlacesListed table message accept places count lanes = (index : ℕ) (place : Place) → index < count
      → slice_get places index ≡ Some place → IsPlaceListed table message accept index place lanes

  -- each place of a message is listed, if there is such a message
  abbrev pub IsListed : {D : Type 0} → NodeState D → ℕ → Lanes → Type 0
  IsListed node number lanes =
      MatchOption (message_of node.records.queue.messages number) (Unit {0})
      (λ message. ArePlacesListed node.config.routes number message.accept message.places (length message.places) lanes)

  -- each message from one number on, and before another, is listed
  abbrev pub AreListedFrom : {D : Type 0} → NodeState D → ℕ → ℕ → Lanes → Type 0
  AreListedFrom node first next lanes = (number : ℕ) → first ≤ number → number < next → IsListed node number lanes

  -- The next messages of the walk over the queue were listed, as many as a part has, or all that were left. The walk
  -- goes on after them, and what was listed before stays listed.
  pub record ListsPart {D : Type 0} (node : NodeState D) (old new : Lanes) : Type 0 where
    pub kept : KeepsListed old new
    pub size : ℕ
    pub walk : new.queued.left ≡ drop size old.queued.left
    pub whole : (size ≡ PART_SIZE) ⊎ (new.queued.left ≡ [])
    pub listed : (step number : ℕ) → step < size → slice_get old.queued.left step ≡ Some number
        → IsListed node number new

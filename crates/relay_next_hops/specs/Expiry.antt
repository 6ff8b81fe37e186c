-- Mail that a postmaster holds expires as other mail does: five days after it was accepted, without a connection.
use Rattle.std.specs.Prelude.{◌≡◌, ◌⊎◌, ◌+◌, ◌<◌, ℕ, Bool, true, false, nat_le, ◌&&◌, List, ◌∷◌, Option, None, Some}
use Rattle.std.specs.Prelude.{MatchOption, if◌then◌else◌, length, slice_get}
use Rattle.std.specs.Option.{option_map_or}
use Rattle.relay_disk.specs.Device.{DiskWords}
use Rattle.relay_routes.specs.Routes.{RouteTable}
use Rattle.relay_routes.specs.declared.hop.Hop.{Hop as NextHop}
use Rattle.relay_book.specs.DueReport.{patience}
use Rattle.relay_book.specs.Queue.{is_due_at, message_of}
use Rattle.relay_book.specs.declared.change.Accept.{Accept as AcceptFields}
use Rattle.relay_book.specs.declared.message.Message.{Message}
use Rattle.relay_book.specs.declared.message.Place.{Place}
use Rattle.relay_control.specs.Held.{holds}
use Rattle.relay_control.specs.declared.held.Held.{Held}
use Rattle.relay_node.specs.Node.{NodeState}
use Rattle.relay_loop.specs.Relay.{RelayState}
use Rattle.relay_connections.specs.Served.{LeavesClients}
use Rattle.relay_next_hops.specs.Listing.{route_of}
use Rattle.relay_next_hops.specs.Losses.{IsRecordedIf}
use Rattle.relay_next_hops.specs.Starting.{IsGivenUp}
use Rattle.relay_next_hops.specs.declared.delivery.Delivery.{Delivery}
use Rattle.relay_next_hops.specs.declared.lanes.Lanes.{Lanes}

-- the time of a place is over: it is due, and its message was accepted five days ago, or before
abbrev pub is_over : ℕ → ℕ → Place → Bool
is_over at accepted place = is_due_at at place && nat_le (accepted + patience) at

-- Below: at a time, of a message of this number that was accepted so, with this held mail and these routes.
module _ (at : ℕ) (held : Held) (table : RouteTable) (number : ℕ) (accept : AcceptFields) where
  -- the time of the place of this index is over, and a postmaster holds the mail for its next hop
  abbrev pub is_kept_over : ℕ → Place → Bool
  is_kept_over index place = is_over at accept.at place
      && option_map_or (λ hop. holds hop.name number held) (route_of table accept.envelope.recipients index) false

  -- one of these places is such, and goes to this next hop
  pub record GoesOver (places : List Place) (hop : NextHop) : Type 0 where
    pub index : ℕ
    pub place : Place
    pub there : slice_get places index ≡ Some place
    pub over : is_kept_over index place ≡ true
    pub goes : route_of table accept.envelope.recipients index ≡ Some hop

  -- none of these places before this index is such
  abbrev pub NoneIsOver : List Place → ℕ → Type 0
  NoneIsOver places count = (index : ℕ) (place : Place) → index < count → slice_get places index ≡ Some place
      → is_kept_over index place ≡ false

-- the mail of a queued message for the next hop of this name is held, and its time is over
pub record HasOver {D : Type 0} (at : ℕ) (held : Held) (node : NodeState D) (number : ℕ) (name : List ℕ) : Type 0 where
  pub message : Message
  pub found : message_of node.records.queue.messages number ≡ Some message
  pub hop : NextHop
  pub goes : GoesOver at held node.config.routes number message.accept message.places hop
  pub its_name : hop.name ≡ name

-- no held mail of the message is over
abbrev pub HasNoneOver : {D : Type 0} → ℕ → Held → NodeState D → ℕ → Type 0
HasNoneOver at held node number = MatchOption (message_of node.records.queue.messages number) (Unit {0})
    (λ message. NoneIsOver at held node.config.routes number message.accept message.places (length message.places))

-- a delivery without an attempt, for held mail of the message that is over; or none of it is
abbrev pub IsOver : {D : Type 0} → ℕ → Held → NodeState D → ℕ → Option Delivery → Type 0
IsOver at held node number None = HasNoneOver at held node number
IsOver at held node number (Some delivery) =
    HasOver at held node number delivery.name × (delivery.message ≡ number) × (delivery.attempt ≡ None)

-- Held mail of the first message that is to be given up is over: its loss is recorded, without a connection, and the
-- message stays the first, since other mail of it may be over. If the node refuses the loss, the others follow.
pub record Expires {D : Type 0} (words : DiskWords D) (at number : ℕ) (rest : List ℕ) (held : Held)
    (old new : RelayState D) (lanes : Lanes) (ended : Bool)
    : Type 0 where
  pub delivery : Delivery
  pub over : IsOver at held old.node number (Some delivery)
  pub lost : IsRecordedIf words at delivery old new ended
  pub left : lanes.unroutable.items ≡ (if ended then number ∷ rest else rest)

-- What a call makes of the first message that is to be given up: held mail of it that is over expires; or there is none,
-- and its places without a hop are given up. If memory runs out, nothing changes, and all due mail is listed again.
abbrev pub EndsFirst
    : {D : Type 0} → DiskWords D → ℕ → ℕ → List ℕ → Held → RelayState D → RelayState D → Lanes → Bool → Type 0
EndsFirst words at number rest held old new lanes ended = Expires words at number rest held old new lanes ended
    ⊎ (HasNoneOver at held old.node number × IsGivenUp words at number old new lanes ended
    × (lanes.unroutable.items ≡ rest))
    ⊎ ((ended ≡ false) × (new ≡ old) × (lanes.is_stale ≡ true) × (lanes.unroutable.items ≡ rest))

-- The same, by the first change of a call. The call left clients alone up to then, and afterwards: so the changes that
-- the node kept then are among those that it keeps now.
abbrev pub HasEndedFirst
    : {D : Type 0} → Type 0 → DiskWords D → ℕ → ℕ → List ℕ → Held → RelayState D → RelayState D → Lanes → Bool → Type 0
HasEndedFirst {D} honest words at number rest held old new lanes ended = (between : RelayState D)
    × LeavesClients honest words old between × EndsFirst words at number rest held old between lanes ended
    × LeavesClients honest words between new

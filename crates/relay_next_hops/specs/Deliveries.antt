-- What connections to next hops are for, and where they lead.
use Rattle.std.specs.Prelude.{◌≡◌, ◌==◌, ◌&&◌, ℕ, max, min, Bool, true, false, List, [], ◌∷◌, Option, None, Some}
use Rattle.std.specs.Prelude.{if◌then◌else◌, length, slice_set}
use Rattle.std.specs.declared.net.socket_addr.SocketAddrV4.{SocketAddrV4}
use Rattle.relay_slots.specs.Slots.{slot_at}
use Rattle.relay_lines.specs.Reply.{Reply}
use Rattle.relay_trace.specs.DateTime.{last_second}
use Rattle.relay_routes.specs.Routes.{Route, place_of}
use Rattle.relay_book.specs.Queue.{message_of}
use Rattle.relay_book.specs.declared.message.Message.{Message}
use Rattle.relay_book.specs.declared.message.Place.{Place}
use Rattle.relay_attempts.specs.Attempts.{StartsAtMost}
use Rattle.relay_attempts.specs.declared.start.Started.{Started}
use Rattle.relay_loop.specs.Relay.{OnlyHop, RelayState}
use Rattle.relay_log.specs.declared.hop_link.Loss.{Loss}
use Rattle.relay_log.specs.declared.hop_link.Loss.TheVariants.{Refused, Unreachable, Silent, Cut}
use Rattle.relay_connections.specs.Channel.{held_of, is_shut, unread_of}
use Rattle.relay_connections.specs.Leaving.{MayTake, leavers_of}
use Rattle.relay_connections.specs.declared.channel.Channel.{Channel}
use Rattle.relay_connections.specs.declared.leaving.Leaving.{Leaving}
use Rattle.relay_lanes.specs.Portions.{Shares, halved_for}
use Rattle.relay_next_hops.specs.declared.delivery.Aim.{Aim}
use Rattle.relay_next_hops.specs.declared.delivery.Course.{Course}
use Rattle.relay_next_hops.specs.declared.delivery.Course.TheVariants.{Stays, Ended, Lost, TurnedAway, Void}
use Rattle.relay_next_hops.specs.declared.hop.Hop.{Hop}
use Rattle.relay_next_hops.specs.Phases.{is_in_transaction}

-- the connection is for the same message and next hop, in the same lane, to the same address
pub record KeepsDelivery {S : Type 0} (old new : Hop S) : Type 0 where
  pub aim : new.aim ≡ old.aim
  pub message : new.message ≡ old.message
  pub name : new.name ≡ old.name

-- the connection leads to the address that the routes give for its next hop
abbrev pub IsAimed : {S : Type 0} → List Route → Hop S → Type 0
IsAimed routes hop = place_of routes hop.name ≡ Some hop.aim.at

-- each connection does
abbrev pub AreAimed : {S : Type 0} → List Route → List (Option (Hop S)) → Type 0
AreAimed {S} routes hops = (number : ℕ) (hop : Hop S) → slot_at hops number ≡ Some hop → IsAimed routes hop

-- what is left in the table of a connection with this course: itself, if it stays
abbrev pub left_of : {S : Type 0} → Course → Hop S → Option (Hop S)
left_of Stays hop = Some hop
left_of (Ended outbox noted) hop = None
left_of (Lost loss) hop = None
left_of TurnedAway hop = None
left_of Void hop = None

-- half as many recipients of a message in further attempts, where one that had begun was cut off; as many as before
-- after any other loss of a connection
abbrev pub portions_after_loss : Loss → Option ℕ → ℕ → Shares → Shares
portions_after_loss Refused attempt message portions = portions
portions_after_loss Unreachable attempt message portions = portions
portions_after_loss Silent attempt message portions = portions
portions_after_loss Cut None message portions = portions
portions_after_loss Cut (Some attempt) message portions = halved_for message portions

-- RFC 5321, section 3.8: by a reply of code 421 the next hop closes the connection
abbrev pub is_closing : Option Reply → Bool
is_closing None = false
is_closing (Some reply) = reply.code == 421

-- the next hop has ended a mail transaction by 421: that is its last reply, and nothing follows it
abbrev pub closes : {S : Type 0} → Hop S → Bool
closes hop = (length (unread_of hop.channel) == 0) && is_in_transaction hop.phase && is_closing hop.heard.last

-- The most recipients of each message in an attempt, after a connection for a message that has come to this: half as
-- many if its attempt was cut off, or if the next hop has ended its mail transaction by 421.
abbrev pub portions_after : Course → Option ℕ → Bool → ℕ → Shares → Shares
portions_after Stays attempt closed message portions = portions
portions_after (Ended outbox noted) attempt closed message portions =
    if closed then halved_for message portions else portions
portions_after (Lost loss) attempt closed message portions = portions_after_loss loss attempt message portions
portions_after TurnedAway attempt closed message portions = portions
portions_after Void attempt closed message portions = portions

-- the last moment at which one of these places is due that is held, or now if that is later
abbrev pub last_due : List Place → ℕ → ℕ
last_due [] now = now
last_due (place ∷ places) now = max (if place.held then place.due else now) (last_due places now)

-- The moment by which an attempt for a message begins: now. If it was asked for early, it is the last moment at which a
-- held place of the message is due, if that is later.
abbrev pub starting_moment : Bool → Option Message → ℕ → ℕ
starting_moment false message now = now
starting_moment true None now = now
starting_moment true (Some message) now = min (last_due message.places now) last_second

-- this attempt has begun for a message and a next hop, for the first of the places that are due there at the moment by
-- which it begins: this many, or all of them if there are fewer
pub record StartsFor {D : Type 0} (early : Bool) (now most message : ℕ) (name : List ℕ) (attempt : Option ℕ)
    (old new : RelayState D)
    : Type 0 where
  pub started : Started
  pub begins : StartsAtMost old.node.config.host old.node.config.routes message name (Some most)
      (starting_moment early (message_of old.node.records.queue.messages message) now) old.node.records.queue
      old.node.attempts new.node.attempts started
  pub attempt_is : attempt ≡ Some started.attempt
  pub records : new.node.records ≡ old.node.records
  pub only : OnlyHop old new started.attempt

-- A connection of a stream that was opened to this address. Nothing was read from it or written to it, nothing is held
-- back, and its write side is open.
pub record IsOpenedTo {S : Type 0} (leads_to : S → SocketAddrV4 → Type 0) (remaining contents : S → Option (List ℕ))
    (at : SocketAddrV4) (channel : Channel S) : Type 0 where
  pub stream : S
  pub leads : leads_to stream at
  pub input : remaining channel.stream ≡ remaining stream
  pub output : contents channel.stream ≡ contents stream
  pub unread : unread_of channel ≡ []
  pub held : held_of channel ≡ []
  pub shut : is_shut channel ≡ false

-- Each slot for connections that leave is as before; one that was free may have this connection, which leads to a next
-- hop of this lane, and these are its last octets.
abbrev pub MayLeave : {S : Type 0} → (S → Option (List ℕ)) → (S → Option (List ℕ)) → Channel S → List ℕ → ℕ → Leaving S
    → Leaving S → Type 0
MayLeave remaining contents channel last lane old new = (number : ℕ)
    → MayTake remaining contents channel last (Some lane) (slot_at (leavers_of old) number)
    (slot_at (leavers_of new) number)

-- A connection for this message and next hop is under a number; it was opened to the address of its aim. Its attempt
-- hasn't begun.
pub record PutsFor {S : Type 0} (Opened : SocketAddrV4 → Channel S → Type 0) (aim : Aim) (message : ℕ) (name : List ℕ)
    (number : ℕ) (old new : List (Option (Hop S))) : Type 0 where
  pub hop : Hop S
  pub opened : Opened aim.at hop.channel
  pub put : new ≡ slice_set old number (Some hop)
  pub its_aim : hop.aim ≡ aim
  pub its_message : hop.message ≡ message
  pub its_name : hop.name ≡ name
  pub none : hop.attempt ≡ None

-- A queued recipient as a view shows it: what the queue has of it, and the next hop that the routes give.
use Rattle.std.specs.Prelude.{ℕ, List, length, slice_get, Option, None, option_map, if◌then◌else◌}
use Rattle.std.specs.Option.{option_and_then, option_copied}
use Rattle.relay_envelope.specs.declared.envelope.Recipient.{Recipient}
use Rattle.relay_routes.specs.Routes.{RouteTable, hop_at}
use Rattle.relay_book.specs.declared.change.Accept.{Accept}
use Rattle.relay_book.specs.declared.message.Message.{Message}
use Rattle.relay_book.specs.declared.message.Place.{Place}
use Rattle.relay_book.specs.Queue.{Queue, message_of}
use Rattle.relay_listing.specs.declared.row.Row.{Row}

-- its message and its place there, when the message was accepted, the message's size, its reverse path and forward
-- path, its next hop, how often it was deferred, and when it is due
pub record Queued : Type 0 where
  pub number : ℕ
  pub place : ℕ
  pub accepted : ℕ
  pub size : ℕ
  pub reverse_path : List ℕ
  pub path : List ℕ
  pub hop : Option (List ℕ)
  pub tries : ℕ
  pub due : ℕ

-- the name of the next hop of a path
abbrev pub hop_name : RouteTable → List ℕ → Option (List ℕ)
hop_name table path = option_map (λ hop. hop.name) (hop_at table path)

-- a recipient of a message, with the state of its place
abbrev pub queued_for : RouteTable → ℕ → ℕ → Accept → Place → Recipient → Queued
queued_for table number place accept waiting recipient = record {
  number = number;
  place = place;
  accepted = accept.at;
  size = length accept.stored_text;
  reverse_path = accept.envelope.reverse_path;
  path = recipient.path;
  hop = hop_name table recipient.path;
  tries = waiting.laters;
  due = waiting.due;
}

-- the recipient, if its place is held
abbrev pub queued_if_held : RouteTable → ℕ → ℕ → Accept → Option Recipient → Place → Option Queued
queued_if_held table number place accept recipient waiting =
    if waiting.held then option_map (queued_for table number place accept waiting) recipient else None

-- the recipient at a place of a message, if that is held
abbrev pub queued_in : RouteTable → ℕ → ℕ → Message → Option Queued
queued_in table number place message =
    option_and_then
    (queued_if_held table number place message.accept (slice_get message.accept.envelope.recipients place))
    (slice_get message.places place)

-- the recipient at a place of the message of this number
abbrev pub queued_at : RouteTable → Queue → ℕ × ℕ → Option Queued
queued_at table queue mark =
    option_and_then (queued_in table mark.0 mark.1) (message_of queue.messages mark.0)

-- the recipient that a row shows
abbrev pub said_by : Row → Queued
said_by row = record {
  number = row.number;
  place = row.place;
  accepted = row.accepted;
  size = row.size;
  reverse_path = row.reverse_path.now;
  path = row.path.now;
  hop = option_copied row.hop;
  tries = row.tries;
  due = row.due;
}

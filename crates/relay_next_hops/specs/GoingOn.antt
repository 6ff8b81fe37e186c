-- What an attempt leaves of a message at its next hop: if more of it is due there, that is the next of its lane.
use Rattle.std.specs.Prelude.{◌≡◌, ℕ, Bool, true, false, List}
use Rattle.std.specs.Option.{option_map_or}
use Rattle.relay_attempts.specs.Hops.{due_places_in, is_any}
use Rattle.relay_book.specs.Queue.{message_of}
use Rattle.relay_loop.specs.Relay.{RelayState}
use Rattle.relay_next_hops.specs.Lanes.{IsPutBack}
use Rattle.relay_next_hops.specs.declared.delivery.Delivery.{Delivery}
use Rattle.relay_lanes.specs.declared.lane.Task.{Task}
use Rattle.relay_next_hops.specs.declared.lanes.Lanes.{Lanes}

-- a place of the message is due at a time, and goes to the next hop of this name
abbrev pub is_due_there : {D : Type 0} → RelayState D → ℕ → List ℕ → ℕ → Bool
is_due_there relay message name at =
    option_map_or (λ message. is_any (due_places_in relay.node.config.routes name at message))
    (message_of relay.node.records.queue.messages message) false

-- the message of a delivery is put before the others of its lane, for its next hop, and isn't asked for early
pub record GoesOnWith (delivery : Delivery) (old new : Lanes) : Type 0 where
  pub task : Task
  pub its_message : task.message ≡ delivery.message
  pub its_name : task.hop ≡ delivery.name
  pub late : task.early ≡ false
  pub back : IsPutBack delivery.aim.lane task old new

-- if more of it is due there at a time, it was put there
abbrev pub ComesNext : {D : Type 0} → ℕ → Delivery → RelayState D → Lanes → Type 0
ComesNext at delivery relay new =
    is_due_there relay delivery.message delivery.name at ≡ true → (between : Lanes) × GoesOnWith delivery between new

-- What follows once the greeting of a next hop is read: its attempt begins, or is turned away, or none may begin.
use Rattle.std.specs.Prelude.{◌≡◌, ℕ, Bool, true, List, Option, None, Some, slice_get}
use Rattle.relay_book.specs.Queue.{message_of}
use Rattle.relay_records.specs.declared.fault.NodeFault.{NodeFault}
use Rattle.relay_attempts.specs.Attempts.{RefusesToStartAtMost}
use Rattle.relay_loop.specs.Relay.{RelayState}
use Rattle.relay_connections.specs.Channel.{unread_of}
use Rattle.relay_next_hops.specs.Deliveries.{StartsFor, starting_moment}
use Rattle.relay_next_hops.specs.declared.delivery.Course.{Course}
use Rattle.relay_next_hops.specs.declared.delivery.Course.TheVariants.{Stays, Ended, Lost, TurnedAway, Void}
use Rattle.relay_next_hops.specs.declared.hop.Hop.{Hop}

-- No attempt may begin for a message and a next hop: the node refuses it for this reason, and nothing changes.
pub record RefusesFor {D : Type 0} (early : Bool) (now most message : ℕ) (name : List ℕ) (old new : RelayState D)
    : Type 0 where
  pub fault : NodeFault
  pub refused : RefusesToStartAtMost old.node.config.host old.node.config.routes message name (Some most)
      (starting_moment early (message_of old.node.records.queue.messages message) now) old.node.records
      old.node.attempts fault
  pub same : new ≡ old

-- The attempt of the connection has begun, and it is this one; or it is void, since none may begin.
abbrev pub BeginsOrIsVoid
    : {D : Type 0} → Bool → ℕ → ℕ → ℕ → List ℕ → Option ℕ → RelayState D → RelayState D → Course → Type 0
BeginsOrIsVoid early now most message name attempt old new Stays =
    StartsFor early now most message name attempt old new
BeginsOrIsVoid early now most message name attempt old new (Ended outbox noted) = ⊥
BeginsOrIsVoid early now most message name attempt old new (Lost loss) = ⊥
BeginsOrIsVoid early now most message name attempt old new TurnedAway = ⊥
BeginsOrIsVoid early now most message name attempt old new Void =
    (attempt ≡ None) × RefusesFor early now most message name old new

-- RFC 5321, section 4.2.1: what was read begins with 4, a refusal for now
abbrev pub IsDeferral : {S : Type 0} → Hop S → Type 0
IsDeferral hop = slice_get (unread_of hop.channel) 0 ≡ Some 52

-- profile: an attempt is turned away only by such a greeting, of a next hop that has other connections
abbrev pub IsTurnedAway : {S : Type 0} → Bool → Hop S → Type 0
IsTurnedAway shared hop = (shared ≡ true) × IsDeferral hop

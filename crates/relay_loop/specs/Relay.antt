-- A relay: a node, and the unwritten octets for the connections of its sessions and attempts.
use Rattle.std.specs.Prelude.{◌≡◌, ℕ, List, Option}
use Rattle.relay_slots.specs.Slots.{OthersStay}
use Rattle.relay_node.specs.Node.{NodeState}

-- what callers see of a relay: its node, and the unwritten octets for each client and each next hop, by number
pub record RelayState (D : Type 0) : Type 0 where
  pub node : NodeState D
  pub clients : List (Option (List ℕ))
  pub hops : List (Option (List ℕ))

-- a call on the session of this number changes no other session or connection, no attempt, and not the configuration
pub record OnlyClient {D : Type 0} (old new : RelayState D) (session : ℕ) : Type 0 where
  pub seats : OthersStay old.node.seats new.node.seats session
  pub clients : OthersStay old.clients new.clients session
  pub config : new.node.config ≡ old.node.config
  pub attempts : new.node.attempts ≡ old.node.attempts
  pub hops : new.hops ≡ old.hops

-- a call on the attempt of this number changes no other attempt or connection, no session, and not the configuration
pub record OnlyHop {D : Type 0} (old new : RelayState D) (attempt : ℕ) : Type 0 where
  pub attempts : OthersStay old.node.attempts new.node.attempts attempt
  pub hops : OthersStay old.hops new.hops attempt
  pub config : new.node.config ≡ old.node.config
  pub seats : new.node.seats ≡ old.node.seats
  pub clients : new.clients ≡ old.clients

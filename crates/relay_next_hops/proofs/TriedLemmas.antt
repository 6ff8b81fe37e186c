-- A connection for a message and a next hop, in a lane, under a number of the table.
use Rattle.std.proofs.Common.{◌≡◌, ℕ, List, Option, Some}
use Rattle.relay_slots.specs.Slots.{slot_at}
use Rattle.relay_next_hops.specs.declared.hop.Hop.{Hop}

pub record IsTriedAt {S : Type 0} (hops : List (Option (Hop S))) (message : ℕ) (name : List ℕ) (lane number : ℕ)
    : Type 0 where
  pub hop : Hop S
  pub there : slot_at hops number ≡ Some hop
  pub its_message : hop.message ≡ message
  pub its_name : hop.name ≡ name
  pub its_lane : hop.aim.lane ≡ lane

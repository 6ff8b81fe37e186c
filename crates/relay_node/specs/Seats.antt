-- The seat of a session, which a call takes out of the node's slots and puts back.
use Rattle.std.specs.Prelude.{◌≡◌, ◌≢◌, ℕ, Bool, true, false, List, Option, None, Some, slice_set}
use Rattle.relay_slots.specs.Slots.{slot_at}
use Rattle.relay_records.specs.declared.fault.NodeFault.{NodeFault}
use Rattle.relay_records.specs.declared.fault.NodeFault.TheVariants.{NoMemory, Stopped, Unknown}
use Rattle.relay_records.specs.Records.{Kept}
use Rattle.relay_server.specs.Session.{in_transaction}
use Rattle.relay_node.specs.declared.seat.Seat.{Seat}

-- the records are live, and the seat of this number is taken out
pub record TakesSeat {D : Type 0} (records : Kept D) (number : ℕ) (old new : List (Option Seat)) (seat : Seat) : Type 0
  where
    pub live : records.spool.live ≡ true
    pub was : Some seat ≡ slot_at old number
    pub rest : new ≡ slice_set old number None

-- a mail transaction is open in the session of this number; no session has this number otherwise, or none is
abbrev pub seat_in_transaction : Option Seat → Bool
seat_in_transaction None = false
seat_in_transaction (Some seat) = in_transaction seat.session.value

abbrev pub in_transaction_at : List (Option Seat) → ℕ → Bool
in_transaction_at seats number = seat_in_transaction (slot_at seats number)

-- why a call gets no seat: the records are stopped, there is none, or memory ran out, and then it is gone
abbrev pub RefusesSeat : {D : Type 0} → Kept D → ℕ → List (Option Seat) → List (Option Seat) → NodeFault → Type 0
RefusesSeat records number old new Stopped = (records.spool.live ≡ false) × (new ≡ old)
RefusesSeat records number old new Unknown = (records.spool.live ≡ true) × (slot_at old number ≡ None) × (new ≡ old)
RefusesSeat records number old new NoMemory =
    (records.spool.live ≡ true) × (slot_at old number ≢ None) × (new ≡ slice_set old number None)
RefusesSeat records number old new other = ⊥

-- The octets that are to be written to the connections of one kind, by number.
use Rattle.std.specs.Prelude.{ℕ, List, [], Option, None, Some}
use Rattle.relay_slots.specs.Slots.{slot_at}

-- the unwritten octets of an open connection; none if it isn't open
abbrev pub octets_of : Option (List ℕ) → List ℕ
octets_of None = []
octets_of (Some octets) = octets

-- the unwritten octets for the connection of a number
abbrev pub unwritten_at : List (Option (List ℕ)) → ℕ → List ℕ
unwritten_at connections number = octets_of (slot_at connections number)

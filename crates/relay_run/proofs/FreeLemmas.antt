-- Tables in which no slot has a value.
use Rattle.std.proofs.Common.{◌≡◌, List, [], ◌∷◌, Option, None, Some, arith}
use Rattle.relay_slots.specs.Slots.{AreFree}
use Rattle.relay_connections.specs.Table.{count_of}

-- none is counted
pub free_of_count : {A : Type 0} (slots : List (Option A)) → count_of slots ≡ 0 → AreFree slots
free_of_count [] none = tt
free_of_count (None ∷ slots) none = free_of_count slots (omega (arith, none))
free_of_count (Some value ∷ slots) none = absurd (omega (arith, none))

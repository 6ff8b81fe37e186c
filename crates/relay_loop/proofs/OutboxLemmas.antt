-- A number with a connection is that of a slot.
use Rattle.std.proofs.Common.{◌≡◌, ◌<◌, ℕ, List, Option, None, Some, MatchOption, sym, subst}
use Rattle.relay_slots.specs.Slots.{HasPlaces, slot_at}
use Rattle.relay_slots.specs.declared.slots.TheConstants.{SLOT_COUNT}
use Rattle.relay_slots.proofs.Theorems.{has_slot}

pub within_of : (slots : List (Option (List ℕ))) (number : ℕ) (found : Option (List ℕ)) → HasPlaces slots → found ≡ slot_at slots number → MatchOption found (Unit {0}) (λ _. number < SLOT_COUNT)
within_of slots number None places is = tt
within_of slots number (Some octets) places is = subst (λ n. number < n) places (has_slot slots number octets (sym is))

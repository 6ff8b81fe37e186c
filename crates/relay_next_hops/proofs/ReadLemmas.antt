-- What stands at a number of a table, read through the slice of its slots.
use Rattle.std.proofs.Common.{◌≡◌, ℕ, List, Option, None, sym, ◌∙◌}
use Rattle.std.specs.Option.{option_map, unwrap_or}
use Rattle.std.proofs.Math.ListN.{get_or}
use Rattle.relay_slots.specs.Slots.{slot_at}

pub slot_read : {A B : Type 0} (now : B → Option A) (result : Option B) (standing slots : List (Option A)) (number : ℕ)
    → ((d : Option A) → unwrap_or (option_map now result) d ≡ get_or standing number d)
    → ((n : ℕ) → slot_at standing n ≡ slot_at slots n) → slot_at slots number ≡ unwrap_or (option_map now result) None
slot_read now result standing slots number read same = sym (same number) ∙ sym (read None)

-- What stands in a slot that was emptied and filled again.
use Rattle.std.proofs.Common.{◌≡◌, ℕ, ◌<◌, zero, suc, Bool, true, false, List, [], ◌∷◌, length, Option, None, Some, nat_lt, slice_set, refl, sym, ap, ◌∙◌, subst, arith, if◌then◌else◌}
use Rattle.std.proofs.Math.Seq.{lt-length-set}
use Rattle.relay_slots.specs.Slots.{slot_at}
use Rattle.relay_connections.specs.declared.refusals.Tally.{Tally}
use Rattle.relay_connections.specs.Refusals.{after, left_after, over_at, told}

-- what was put into a slot before doesn't matter
set_again : {A : Type 0} (slots : List A) (number : ℕ) (one other : A) → slice_set (slice_set slots number one) number other ≡ slice_set slots number other
set_again [] number one other = refl
set_again (slot ∷ slots) zero one other = refl
set_again (slot ∷ slots) (suc number) one other = ap (λ rest. slot ∷ rest) (set_again slots number one other)

-- a slot in which something stands is one of them
within : {A : Type 0} (slots : List (Option A)) (number : ℕ) (value : A) → slot_at slots number ≡ Some value → number < length slots
within [] number value there = absurd (cc there)
within (slot ∷ slots) zero value there = omega arith
within (slot ∷ slots) (suc number) value there = let below = within slots number value there in omega (arith, below)

-- a slot was emptied, and filled again
pub put_again : {A : Type 0} (old new put : List (Option A)) (number : ℕ) (one other : A) → slot_at old number ≡ Some one → new ≡ slice_set old number None
    → (number < length new → put ≡ slice_set new number (Some other)) → put ≡ slice_set old number (Some other)
put_again old new put number one other there empty stands =
    stands (subst (λ (slots : List (Option _)). number < length slots) (sym empty) (lt-length-set old number None (within old number one there)))
    ∙ ap (λ slots. slice_set slots number (Some other)) empty ∙ set_again old number None (Some other)

-- where something isn't told of an address, and nothing was told of it for a minute, it was told of just now
pub left_told : (tick number : ℕ) (tally : Tally) (old : List (Option Tally)) → slot_at old number ≡ Some tally → nat_lt tick tally.until ≡ false → nat_lt 0 tally.count ≡ true
    → left_after tick old number ≡ slice_set old number (Some (told tally.peer tick))
left_told tick number tally old there past some =
    ap (λ slot. after tick old number (over_at tick slot)) there
    ∙ ap (λ (waits : Bool). after tick old number (if waits then None else Some tally)) past
    ∙ ap (λ (counts : Bool). slice_set old number (if counts then Some (told tally.peer tick) else None)) some

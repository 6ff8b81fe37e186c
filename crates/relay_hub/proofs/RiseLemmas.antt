-- Receipts whose numbers rise, and how often a number comes among them.
use Rattle.std.proofs.Common.{◌≡◌, ◌≢◌, ◌≤◌, ◌<◌, ◌+◌, ℕ, zero, suc, List, [], ◌∷◌, length, get_or, if◌then◌else◌, Result, Ok, Err, refl, sym, arith}
use Rattle.std.specs.List.{AllByRecursion}
use Rattle.std.specs.List.Sorted.{IsBinarySearchResult, IsNonDecreasingBy, IsSearchInRange}
use Rattle.std.specs.Ordering.{nat_cmp, ordering_index}
use Rattle.std.specs.Result.{is_ok}
use Rattle.std.proofs.lemmas.Bool.Decides.{nat_tests}
use Rattle.std.proofs.lemmas.Cmp.{ranked}
use Rattle.relay_hub.specs.declared.receipt.Receipt.{Receipt}
use Rattle.relay_hub.specs.Receipts.{IsRising, Rise, times_in}

-- none has a number below the least
none_below : (least bound number : ℕ) (receipts : List Receipt) → Rise least bound receipts → number < least → times_in number receipts ≡ 0
none_below least bound number [] all low = refl
none_below least bound number (receipt ∷ receipts) all low =
    let from = all.0 in
    let more = none_below (receipt.number + 1) bound number receipts all.2 (omega (arith, low, from)) in
    grind (arith, nat_tests, more, from)

-- each has the least number or one above it
at_least : (least bound : ℕ) (receipts : List Receipt) (place : ℕ) (other : Receipt) → Rise least bound receipts → place < length receipts → least ≤ (get_or receipts place other).number
at_least least bound [] place other all within = absurd (omega (arith, within))
at_least least bound (receipt ∷ receipts) zero other all within = all.0
at_least least bound (receipt ∷ receipts) (suc place) other all within =
    let more = at_least (receipt.number + 1) bound receipts place other all.2 (omega (arith, within)) in
    let low = all.0 in
    omega (arith, more, low)

-- where one has the number, no other has it
one_at : (least bound number : ℕ) (receipts : List Receipt) (place : ℕ) (other : Receipt) → Rise least bound receipts → place < length receipts → (get_or receipts place other).number ≡ number → times_in number receipts ≡ 1
one_at least bound number [] place other all within is = absurd (omega (arith, within))
one_at least bound number (receipt ∷ receipts) zero other all within is =
    let none = none_below (receipt.number + 1) bound number receipts all.2 (omega (arith, is)) in
    grind (arith, nat_tests, none, is)
one_at least bound number (receipt ∷ receipts) (suc place) other all within is =
    let one = one_at (receipt.number + 1) bound number receipts place other all.2 (omega (arith, within)) is in
    let above = at_least (receipt.number + 1) bound receipts place other all.2 (omega (arith, within)) in
    grind (arith, nat_tests, one, above, is)

none_at : (number : ℕ) (receipts : List Receipt) → ((place : ℕ) (other : Receipt) → place < length receipts → (get_or receipts place other).number ≢ number) → times_in number receipts ≡ 0
none_at number [] differs = refl
none_at number (receipt ∷ receipts) differs =
    let none = none_at number receipts (λ place other within. differs (suc place) other (omega (arith, within))) in
    let first = differs 0 receipt (omega arith) in
    grind (arith, nat_tests, none, first)

numbers_rise : (least bound : ℕ) (receipts : List Receipt) → Rise least bound receipts → IsNonDecreasingBy (λ receipt. receipt.number) receipts
numbers_rise least bound [] all i j other le within = absurd (omega (arith, within))
numbers_rise least bound (receipt ∷ receipts) all zero zero other le within = omega arith
numbers_rise least bound (receipt ∷ receipts) all zero (suc j) other le within =
    let above = at_least (receipt.number + 1) bound receipts j other all.2 (omega (arith, within)) in
    omega (arith, above)
numbers_rise least bound (receipt ∷ receipts) all (suc i) zero other le within = absurd (omega (arith, le))
numbers_rise least bound (receipt ∷ receipts) all (suc i) (suc j) other le within =
    numbers_rise (receipt.number + 1) bound receipts all.2 i j other (omega (arith, le)) (omega (arith, within))

comparisons_rise : (receipts : List Receipt) (number : ℕ) → IsRising receipts → IsNonDecreasingBy (λ receipt. ordering_index (nat_cmp receipt.number number)) receipts
comparisons_rise receipts number rising i j other le within =
    let up = numbers_rise rising.0 rising.1 receipts rising.2 i j other le within in
    grind (arith, nat_tests, up)

-- a binary search by number tells whether it comes, and then it comes once
pub looked_up : (receipts : List Receipt) (number : ℕ) (found : Result ℕ ℕ) → IsRising receipts → IsSearchInRange found (length receipts) → IsBinarySearchResult (λ receipt. nat_cmp receipt.number number) receipts found → times_in number receipts ≡ (if is_ok found then 1 else 0)
looked_up [] number (Ok place) rising within found = absurd (omega (arith, within))
looked_up (receipt ∷ receipts) number (Ok place) rising within found = one_at rising.0 rising.1 number (receipt ∷ receipts) place receipt rising.2 within (ranked _ number _ (sym (found receipt)))
looked_up receipts number (Err place) rising within parted =
    none_at number receipts (λ at other inside is. not_here at other inside is)
  where
    not_here : (at : ℕ) (other : Receipt) → at < length receipts → (get_or receipts at other).number ≢ number
    not_here at other inside is =
        let parts = parted (comparisons_rise receipts number rising) in
        grind (arith, nat_tests, is, parts.0 at other, parts.1 at other)

-- where all are below a bound, and from a number on, they rise
pub all_rise : (least bound : ℕ) (passes : List (List Receipt)) → AllByRecursion (λ receipts. Rise least bound receipts) passes → AllByRecursion IsRising passes
all_rise least bound [] all = tt
all_rise least bound (receipts ∷ passes) all = ((least, bound, all.0), all_rise least bound passes all.1)

-- What is shown is safe for a terminal.
use Rattle.std.proofs.Common.{◌≡◌, ℕ, zero, suc, ◌+◌, ◌<◌, ◌≤◌, ◌^◌, Bool, true, false, ◌&&◌, List, [], ◌∷◌, ◌++◌, decimal, add-one, refl, sym, ap, subst, ◌∙◌, arith, append_assoc}
use Rattle.std.specs.Prelude.{if◌then◌else◌}
use Rattle.std.proofs.lemmas.Bool.Decides.{nat_tests}
use Rattle.std.proofs.lemmas.List.Folds.{list_all-append}
use Rattle.std.proofs.lemmas.Fmt.{decimal_is_IsNumeral}
use Rattle.std.proofs.lemmas.Str.Parse.{digit_from_value}
use Rattle.std.specs.Str.Parse.{AllDigits}
use Rattle.std.specs.List.{list_all}
use Rattle.relay_queue.specs.Screen.{AreSafe, is_safe, padding}

-- safe texts join
pub safe_joined : (front back : List ℕ) → AreSafe front → AreSafe back → AreSafe (front ++ back)
safe_joined front back one two = list_all-append is_safe front back ∙ ap (λ b. b && list_all is_safe back) one ∙ two

digit_is_safe : (octet : ℕ) → 48 ≤ octet → octet ≤ 57 → is_safe octet ≡ true
digit_is_safe octet low high = grind (arith, nat_tests)

digits_are_safe : (digits : List ℕ) → AllDigits 10 digits → AreSafe digits
digits_are_safe [] each = refl
digits_are_safe (octet ∷ digits) each =
    let digit = digit_from_value octet each.0 in
    ap (λ b. b && list_all is_safe digits) (digit_is_safe octet (omega (arith, digit.0)) (omega (arith, digit.1))) ∙ digits_are_safe digits each.1

pub decimal_is_safe : (number : ℕ) → number < 2 ^ 64 → AreSafe (decimal number)
decimal_is_safe number small = digits_are_safe (decimal number) (decimal_is_IsNumeral number small).0.1

-- one more space
pub padding_more : (text : List ℕ) (count : ℕ) → (text ++ padding count) ++ 32 ∷ [] ≡ text ++ padding (count + 1)
padding_more text count = append_assoc text (padding count) (32 ∷ []) ∙ ap (λ l. text ++ l) (more count ∙ ap padding (sym (add-one count)))
  where
    more : (count : ℕ) → padding count ++ 32 ∷ [] ≡ padding (suc count)
    more zero = refl
    more (suc count) = ap (λ l. 32 ∷ l) (more count)

-- what is added, or not, leaves the text safe
pub safe_if : (b : Bool) (old added new : List ℕ) → new ≡ (if b then old ++ added else old) → AreSafe old → AreSafe added → AreSafe new
safe_if true old added new is one two = subst AreSafe (sym is) (safe_joined old added one two)
safe_if false old added new is one two = subst AreSafe (sym is) one

-- What a text of a number says.
use Rattle.std.proofs.Common.{◌≡◌, ◌≤◌, ◌<◌, ◌^◌, ℕ, Bool, true, false, List, refl, subst}
use Rattle.std.specs.Str.Parse.{IsNumeral, digits_value, without_leading_plus}
use Rattle.clap.specs.Values.{Accepts}
use Rattle.clap.specs.ValueTests.{is_unsigned_in}
use Rattle.clap.specs.declared.builder.value_parser.ValueParser.TheVariants.{Unsigned}
use Rattle.clap.proofs.ValueTestLemmas.{accepts-Accepts, Accepts-accepts}
use Rattle.relay_arguments.specs.Arguments.{number_of}

-- a number in the range counts
pub number_in_range : (least most : ℕ) (text : List ℕ) (number : ℕ) → IsNumeral 10 (without_leading_plus text) × (digits_value 10 (without_leading_plus text) < 2 ^ 64) → number ≡ digits_value 10 (without_leading_plus text) → least ≤ number → number ≤ most → number ≡ number_of least most text
number_in_range least most text number is value low high =
    let in_range = Accepts-accepts false (Unsigned least most) text (is.0, is.1, subst (λ n. least ≤ n) value low, subst (λ n. n ≤ most) value high) in
    rw in_range value

-- a text that isn't such a number counts as the least
pub not_in_range : (least most : ℕ) (text : List ℕ) → (Accepts false (Unsigned least most) text → ⊥) → least ≡ number_of least most text
not_in_range least most text none = by_test (is_unsigned_in least most text) refl
  where
    by_test : (test : Bool) → is_unsigned_in least most text ≡ test → least ≡ number_of least most text
    by_test true e = absurd (none (accepts-Accepts false (Unsigned least most) text e))
    by_test false e = rw e refl

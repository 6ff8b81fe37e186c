-- A number is written in one way, and its digits hold no space and no LF.
use Rattle.std.proofs.Common.{◌≡◌, ℕ, ◌<◌, ◌≤◌, ◌^◌, ◌==◌, false, List, [], ◌∷◌, ◌++◌, decimal, Result, Ok, Err, MatchOption, get_or, zero, suc, lit<, sym, ap, subst, ◌∙◌, arith, inl, inr, ◌⊎◌}
use Rattle.std.specs.Char.{digit_value}
use Rattle.std.specs.Result.{result_ok}
use Rattle.std.specs.Str.{IsUtf8}
use Rattle.std.specs.Str.Parse.{AllDigits, IsNumeral, ParsesUnsigned, digits_value}
use Rattle.std.proofs.lemmas.Bool.{false_from_ne_true, eqb-true}
use Rattle.std.proofs.lemmas.Fmt.{IsAscii-decimal, decimal-digits_value, decimal_digit, decimal_injective, decimal_is_IsNumeral, first_decimal}
use Rattle.std.proofs.lemmas.Str.{IsUtf8-from_ascii}
use Rattle.std.proofs.lemmas.Str.Parse.{IsNumeralModel, numerals_by_value, parse_plain, tells_digits}
use Rattle.relay_control.specs.Number.{HasNoNumber, HasNoSeconds, IsNumber, IsSeconds}
use Rattle.relay_control.specs.Request.{HasNo}

no_digit : (stop octet : ℕ) → 10 ≤ digit_value stop → digit_value octet < 10 → octet == stop ≡ false
no_digit stop octet high low =
    false_from_ne_true (octet == stop) (λ h. let same = ap digit_value (eqb-true octet stop h) in omega arith)

has_no-digits : (stop : ℕ) (digits : List ℕ) → 10 ≤ digit_value stop → AllDigits 10 digits → HasNo stop digits
has_no-digits stop [] high all = tt
has_no-digits stop (digit ∷ digits) high all = (no_digit stop digit high all.0, has_no-digits stop digits high all.1)

pub has_no-append : (stop : ℕ) (front back : List ℕ) → HasNo stop front → HasNo stop back → HasNo stop (front ++ back)
has_no-append stop [] back f b = b
has_no-append stop (octet ∷ front) back f b = (f.0, has_no-append stop front back f.1 b)

pub has_no-decimal : (stop n : ℕ) → 10 ≤ digit_value stop → n < 2 ^ 64 → HasNo stop (decimal n)
has_no-decimal stop n high fits = has_no-digits stop (decimal n) high (decimal_is_IsNumeral n fits).0.1

pub number_is_one : (text : List ℕ) (one two : ℕ) → IsNumber text one → IsNumber text two → one ≡ two
number_is_one text one two p q = decimal_injective one two p.fits q.fits (sym p.text_is ∙ q.text_is)

-- what std reads of digits that no zero and no sign leads
own : IsNumeralModel (AllDigits 10) (digits_value 10)
own = numerals_by_value (AllDigits 10) tells_digits

pub number_zero : (text : List ℕ) → text ≡ 48 ∷ [] → IsNumber text 0
number_zero text is = record { text_is = is ∙ sym (decimal_digit 0 (lit< tt)); fits = lit< tt }

-- a number begins with a digit from 1, or is 0
first_of_number : (number : ℕ) → number < 2 ^ 64 → (decimal number ≡ 48 ∷ []) ⊎ (48 < get_or (decimal number) 0 0)
first_of_number zero fits = inl (decimal_digit 0 (lit< tt))
first_of_number (suc n) fits = inr (first_decimal (suc n) (omega arith) fits)

digits_of_number : (text : List ℕ) (number : ℕ) → IsNumber text number → IsNumeral 10 text × (digits_value 10 text ≡ number)
digits_of_number text number p =
    subst (λ (t : List ℕ). IsNumeral 10 t × (digits_value 10 t ≡ number)) (sym p.text_is) (decimal_is_IsNumeral number p.fits)

pub no_number : (text : List ℕ) → (text ≡ 48 ∷ [] → ⊥) → (48 < get_or text 0 0 → ⊥) → HasNoNumber text
no_number text no_zero no_first = record { none = λ number p. by number p (first_of_number number p.fits) }
  where
    by : (number : ℕ) (p : IsNumber text number) → (decimal number ≡ 48 ∷ []) ⊎ (48 < get_or (decimal number) 0 0) → ⊥
    by number p (inl is) = no_zero (p.text_is ∙ is)
    by number p (inr above) = no_first (subst (λ (t : List ℕ). 48 < get_or t 0 0) (sym p.text_is) above)

pub not_text : (text : List ℕ) → (IsUtf8 text → ⊥) → HasNoNumber text
not_text text none = record {
  none = λ number p. none (subst (λ (t : List ℕ). IsUtf8 t) (sym p.text_is) (IsUtf8-from_ascii (decimal number) (IsAscii-decimal number p.fits)));
}

pub number_parsed : {E : Type 0} (text : List ℕ) (parsed : Result ℕ E) → 48 < get_or text 0 0 → ParsesUnsigned 64 10 text parsed
    → MatchOption (result_ok parsed) (HasNoNumber text) (IsNumber text)
number_parsed {E} text (Ok number) above parses =
    let gives = parse_plain own {E = E} 64 text (Ok number) parses (λ plus. omega arith) in
    let fits : digits_value 10 text < 2 ^ 64 = gives.0.2 in
    let written : decimal (digits_value 10 text) ≡ text = decimal-digits_value own text gives.0.0 gives.0.1 (λ leads. absurd (omega arith)) fits in
    let is : number ≡ digits_value 10 text = gives.1 in
    record { text_is = sym written ∙ ap decimal (sym is); fits = subst (λ (n : ℕ). n < 2 ^ 64) (sym is) fits }
number_parsed {E} text (Err fault) above parses =
    let gives = parse_plain own {E = E} 64 text (Err fault) parses (λ plus. omega arith) in
    record {
      none = λ number p.
          let (numeral, value) = digits_of_number text number p in
          gives (numeral.1, numeral.0, subst (λ (n : ℕ). n < 2 ^ 64) (sym value) p.fits);
    }

-- seconds are a number
seconds_number : (text : List ℕ) (seconds : ℕ) → IsSeconds text seconds → IsNumber text seconds
seconds_number text seconds p = let fits = p.fits in record { text_is = p.text_is; fits = omega arith }

pub are_seconds : (text : List ℕ) (number : ℕ) → IsNumber text number → number ≤ 65535 → IsSeconds text number
are_seconds text number p few = record { text_is = p.text_is; fits = omega arith }

pub many_seconds : (text : List ℕ) (number : ℕ) → IsNumber text number → (number ≤ 65535 → ⊥) → HasNoSeconds text
many_seconds text number p many = record {
  none = λ seconds q.
      let same = number_is_one text number seconds p (seconds_number text seconds q) in
      let fits = q.fits in
      many (omega arith);
}

pub no_seconds : (text : List ℕ) → HasNoNumber text → HasNoSeconds text
no_seconds text none = record { none = λ seconds q. none.none seconds (seconds_number text seconds q) }

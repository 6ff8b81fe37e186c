-- Numbers, counts of nodes and moments: what their words are.
use Rattle.std.proofs.Common.{◌≡◌, ℕ, ◌<◌, ◌≤◌, ◌^◌, lit≤, true, false, List, length, Option, Some, Result, refl, sym, ap, subst, ◌∙◌, arith, rules, nat_le}
use Rattle.std.proofs.lemmas.Bool.{and_parts, and_from, false≢true, leb-true, le-leb}
use Rattle.std.proofs.lemmas.List.Sums.{list_all-from_AllPass, AllPass-from_list_all}
use Rattle.std.proofs.lemmas.Fmt.{IsAscii-from_digits}
use Rattle.std.proofs.lemmas.Str.{IsUtf8-from_ascii}
use Rattle.std.proofs.lemmas.Str.Parse.{IsNumeralModel, numerals_by_value, parse_gives, digits_value_short}
use Rattle.std.specs.Char.{is_ascii_digit}
use Rattle.std.specs.Int.{is_in_range}
use Rattle.std.specs.List.{list_all}
use Rattle.std.specs.Option.{MatchOption}
use Rattle.std.specs.Result.{result_ok}
use Rattle.std.specs.Str.{IsUtf8}
use Rattle.std.specs.Str.Parse.{digits_value, ParsesUnsigned}
use Rattle.relay_trace.specs.DateTime.{last_second}
use Rattle.relay_script.specs.Word.{IsNumber, most_nodes}
use Rattle.relay_script.specs.Line.{Operand, IsOperand}
use Rattle.relay_script.specs.Line.Operand.{Node, Number, Count, Time, Text}
use Rattle.relay_script.specs.Reading.{are_number_digits, kind_of, LacksOperand}
use Rattle.relay_script.specs.Reading.Kind.{NumberKind, CountKind, TimeKind}

-- 1 to 18 digits are a number
is_number : (word : List ℕ) → are_number_digits word ≡ true → IsNumber word (digits_value 10 word)
unfolding are_number_digits
is_number word digits =
    let parts = and_parts (is_in_range 1 18 (length word)) (list_all is_ascii_digit word) digits in
    let range = and_parts (nat_le 1 (length word)) (nat_le (length word) 18) parts.0 in
    record {
      some = leb-true 1 (length word) range.0;
      few = leb-true (length word) 18 range.1;
      digits = AllPass-from_list_all is_ascii_digit word parts.1;
      value = refl;
    }

-- and a number is 1 to 18 digits
are_digits : (word : List ℕ) (number : ℕ) → IsNumber word number → are_number_digits word ≡ true
unfolding are_number_digits
are_digits word number is =
    and_from (is_in_range 1 18 (length word)) (list_all is_ascii_digit word)
    (and_from (nat_le 1 (length word)) (nat_le (length word) 18) (le-leb 1 (length word) is.some)
    (le-leb (length word) 18 is.few))
    (list_all-from_AllPass is_ascii_digit word is.digits)

pub no_number : (word : List ℕ) → are_number_digits word ≡ false → LacksOperand NumberKind word
no_number word other = record { absent = λ operand kind is. lacks operand kind is }
  where
    lacks : (operand : Operand) → kind_of operand ≡ NumberKind → IsOperand word operand → ⊥
    lacks (Node index) kind is = cc
    lacks (Number number) kind is = false≢true (sym other ∙ are_digits word number is)
    lacks (Count count) kind is = cc
    lacks (Time seconds) kind is = cc
    lacks (Text octets) kind is = cc

-- texts of digits, in the words of numerals
own : IsNumeralModel (λ digits. list_all is_ascii_digit digits ≡ true) (digits_value 10)
own = numerals_by_value _ (search rules)

-- digits are text
pub digits_are_utf8 : (word : List ℕ) → are_number_digits word ≡ true → IsUtf8 word
unfolding are_number_digits
digits_are_utf8 word digits =
    IsUtf8-from_ascii word
    (IsAscii-from_digits word (own.to word (and_parts (is_in_range 1 18 (length word)) (list_all is_ascii_digit word) digits).1))

-- what is parsed of 1 to 18 digits is their number
pub parsed_number : {E : Type 0} (word : List ℕ) (parsed : Result ℕ E) (found : Option ℕ) → are_number_digits word ≡ true
    → ParsesUnsigned 64 10 word parsed → found ≡ result_ok parsed
    → MatchOption found (LacksOperand NumberKind word) (λ number. IsOperand word (Number number))
unfolding are_number_digits
parsed_number {E} word parsed found digits parses is =
    let parts = and_parts (is_in_range 1 18 (length word)) (list_all is_ascii_digit word) digits in
    let range = and_parts (nat_le 1 (length word)) (nat_le (length word) 18) parts.0 in
    let some : 0 < length word = leb-true 1 (length word) range.0 in
    let few : length word ≤ 18 = leb-true (length word) 18 range.1 in
    let short = digits_value_short own word 18 parts.1 few in
    let most : 10 ^ 18 ≤ 2 ^ 64 = lit≤ tt in
    let below : digits_value 10 word < 2 ^ 64 = omega (arith, short, most) in
    let gives = parse_gives own {E = E} 64 word parsed parses parts.1 some below in
    let known : found ≡ Some (digits_value 10 word) = is ∙ ap result_ok gives in
    let P : Option ℕ → Type 0 = λ o. MatchOption o (LacksOperand NumberKind word) (λ number. IsOperand word (Number number)) in
    subst P (sym known) (is_number word digits)

pub no_moment : (word : List ℕ) → LacksOperand NumberKind word → LacksOperand TimeKind word
no_moment word other = record { absent = λ operand kind is. lacks operand kind is }
  where
    lacks : (operand : Operand) → kind_of operand ≡ TimeKind → IsOperand word operand → ⊥
    lacks (Node index) kind is = cc
    lacks (Number number) kind is = cc
    lacks (Count count) kind is = cc
    lacks (Time seconds) kind is = other.absent (Number seconds) refl is.number
    lacks (Text octets) kind is = cc

-- a number of seconds past the greatest moment is none
pub late_moment : (word : List ℕ) (number : ℕ) → IsOperand word (Number number) → last_second < number
    → LacksOperand TimeKind word
late_moment word number late_is late = record { absent = λ operand kind is. lacks operand kind is }
  where
    lacks : (operand : Operand) → kind_of operand ≡ TimeKind → IsOperand word operand → ⊥
    lacks (Node index) kind is = cc
    lacks (Number other) kind is = cc
    lacks (Count count) kind is = cc
    lacks (Time seconds) kind is = let same : number ≡ seconds = sym late_is.value ∙ is.number.value in omega
        (arith, same, late, is.within)
    lacks (Text octets) kind is = cc

pub no_count : (word : List ℕ) → LacksOperand NumberKind word → LacksOperand CountKind word
no_count word other = record { absent = λ operand kind is. lacks operand kind is }
  where
    lacks : (operand : Operand) → kind_of operand ≡ CountKind → IsOperand word operand → ⊥
    lacks (Node index) kind is = cc
    lacks (Number number) kind is = cc
    lacks (Count count) kind is = other.absent (Number count) refl is.number
    lacks (Time seconds) kind is = cc
    lacks (Text octets) kind is = cc

-- fewer than 2 nodes, or more than 16, are none
pub other_count : (word : List ℕ) (number : ℕ) → IsOperand word (Number number) → is_in_range 2 most_nodes number ≡ false
    → LacksOperand CountKind word
other_count word number other_is other = record { absent = λ operand kind is. lacks operand kind is }
  where
    lacks : (operand : Operand) → kind_of operand ≡ CountKind → IsOperand word operand → ⊥
    lacks (Node index) kind is = cc
    lacks (Number more) kind is = cc
    lacks (Count count) kind is =
        let same : number ≡ count = sym other_is.value ∙ is.number.value in
        let within = and_from (nat_le 2 count) (nat_le count most_nodes) (le-leb 2 count is.some) (le-leb count most_nodes is.within) in
        false≢true (sym other ∙ ap (is_in_range 2 most_nodes) same ∙ within)
    lacks (Time seconds) kind is = cc
    lacks (Text octets) kind is = cc

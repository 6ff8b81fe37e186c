-- What is parsed of digits is their number.
use Rattle.std.proofs.Common.{◌≡◌, ℕ, ◌<◌, true, List, length, Some, Result, Ok, Err, rules, nat_lt, nat_le, sym, ap, ◌∙◌}
use Rattle.std.proofs.lemmas.Bool.{cond-true, cond-false, and_parts, ltb-true, leb-true, lt-ltb, false_from_ne_true}
use Rattle.std.specs.Char.{is_ascii_digit}
use Rattle.std.specs.Int.{is_in_range}
use Rattle.std.specs.List.{list_all}
use Rattle.std.specs.Result.{result_ok}
use Rattle.std.specs.Str.{IsUtf8}
use Rattle.std.specs.Str.Parse.{digits_value, ParsesUnsigned}
use Rattle.std.proofs.lemmas.Fmt.{IsAscii-from_digits}
use Rattle.std.proofs.lemmas.Str.{IsUtf8-from_ascii}
use Rattle.std.proofs.lemmas.Str.Parse.{IsNumeralModel, numerals_by_value, parse_digits}
use Rattle.relay_limits.specs.Port.{are_port_digits, number_of}

own : IsNumeralModel (λ digits. list_all is_ascii_digit digits ≡ true) (digits_value 10)
own = numerals_by_value _ (search rules)

digits_of_port : (text : List ℕ) → are_port_digits text ≡ true → list_all is_ascii_digit text ≡ true
digits_of_port text port = (and_parts (is_in_range 1 5 (length text)) (list_all is_ascii_digit text) port).1

some_of_port : (text : List ℕ) → are_port_digits text ≡ true → 0 < length text
some_of_port text port =
    let parts = and_parts (is_in_range 1 5 (length text)) (list_all is_ascii_digit text) port in
    leb-true 1 (length text) (and_parts (nat_le 1 (length text)) (nat_le (length text) 5) parts.0).0

-- digits are text
pub port_is_utf8 : (text : List ℕ) → are_port_digits text ≡ true → IsUtf8 text
port_is_utf8 text port = IsUtf8-from_ascii text (IsAscii-from_digits text (own.to text (digits_of_port text port)))

pub parsed-port : {E : Type 0} (text : List ℕ) (parsed : Result ℕ E) → are_port_digits text ≡ true
    → ParsesUnsigned 16 10 text parsed → result_ok parsed ≡ number_of text
parsed-port {E} text (Ok port) digits parses =
    let gives = parse_digits own {E = E} 16 text (Ok port) parses (digits_of_port text digits) in
    ap Some gives.1 ∙ sym (cond-true (nat_lt (digits_value 10 text) 65536) _ _ (lt-ltb (digits_value 10 text) 65536 gives.0.1))
parsed-port {E} text (Err fault) digits parses =
    let gives = parse_digits own {E = E} 16 text (Err fault) parses (digits_of_port text digits) in
    sym
    (cond-false (nat_lt (digits_value 10 text) 65536) _ _ (false_from_ne_true _ (λ test. gives (some_of_port text digits, ltb-true (digits_value 10 text) 65536 test))))

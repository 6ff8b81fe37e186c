-- The status code that a reply's text begins with (RFC 2034, section 4), by which a report says why a host refused.
use Rattle.std.specs.Prelude.{ℕ, Bool, true, false, not, ◌&&◌, ◌==◌, List, [], ◌∷◌, codes, length, nat_le}
use Rattle.std.specs.Prelude.{if◌then◌else◌}
use Rattle.std.specs.Char.{is_ascii_digit}
use Rattle.std.specs.Int.{is_in_range}
use Rattle.std.specs.List.{after_first, before_first, list_all}
use Rattle.relay_envelope.specs.Parameters.{is_octet}

-- no zero is before another octet
abbrev pub has_no_leading_zero : List ℕ → Bool
has_no_leading_zero [] = true
has_no_leading_zero (first ∷ []) = true
has_no_leading_zero (first ∷ (second ∷ rest)) = not (first == 48)

-- subject or detail (RFC 3463, section 2): 1*3digit, without leading zeros
abbrev pub is_subcode : List ℕ → Bool
is_subcode digits = is_in_range 1 3 (length digits) && list_all is_ascii_digit digits && has_no_leading_zero digits

-- subject "." detail
abbrev pub are_subcodes : List ℕ → Bool
are_subcodes text = is_subcode (before_first (is_octet 46) text) && is_subcode (after_first (is_octet 46) text)

-- status-code of a permanent failure (RFC 3463, section 2): class "." subject "." detail, where the class is 5
abbrev pub is_failure_code : List ℕ → Bool
is_failure_code [] = false
is_failure_code (first ∷ []) = false
is_failure_code (first ∷ (second ∷ rest)) = first == 53 && second == 46 && are_subcodes rest

-- the first word of a reply's text: what is before its first space
abbrev pub first_word : List ℕ → List ℕ
first_word text = before_first (is_octet 32) text

-- the status of a refused recipient: the code that the reply's text begins with, where both say that it is refused for
-- good, and 5.0.0 elsewhere
unfoldable pub refusal_status : ℕ → List ℕ → List ℕ
refusal_status code text =
    if nat_le 500 code && is_failure_code (first_word text) then first_word text else codes "5.0.0"

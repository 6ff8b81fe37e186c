-- Lines that are cut off octets: where the first one ends, and what follows it.
use Rattle.std.proofs.Common.{◌≡◌, ◌<◌, ◌+◌, ◌==◌, ℕ, Bool, zero, suc, true, false, List, [], ◌∷◌, length, drop, take, get_or, None, Some, refl, sym, ap, ◌∙◌, if◌then◌else◌, arith}
use Rattle.std.proofs.lemmas.Bool.{false_from_ne_true}
use Rattle.memchr.specs.Find.{IsFirstByte, is_byte}
use Rattle.relay_backlog.specs.Waiting.{Waiting, after_octet, line_length, lines_of, with_line, with_lines}

-- no octet is an LF
no_line : (octets : List ℕ) → ((at : ℕ) → at < length octets → (get_or octets at 0 == 10) ≡ false) → line_length octets ≡ length octets
no_line [] none = refl
no_line (octet ∷ octets) none =
    ap (λ is. if is then 1 else suc (line_length octets)) (none 0 (omega arith))
    ∙ ap suc (no_line octets (λ at within. none (suc at) (omega (arith, within))))

-- the first LF stands at this place
line_until : (octets : List ℕ) (place : ℕ) → place < length octets → ((at : ℕ) → at < place → (get_or octets at 0 == 10) ≡ false) → (get_or octets place 0 == 10) ≡ true → line_length octets ≡ suc place
line_until [] place within none here = absurd (omega (arith, within))
line_until (octet ∷ octets) zero within none here = ap (λ is. if is then 1 else suc (line_length octets)) here
line_until (octet ∷ octets) (suc place) within none here =
    ap (λ is. if is then 1 else suc (line_length octets)) (none 0 (omega arith))
    ∙ ap suc (line_until octets place (omega (arith, within)) (λ at low. none (suc at) (omega (arith, low))) here)

-- what a search for an LF answers
pub line_nowhere : (octets : List ℕ) → IsFirstByte (is_byte 10) octets None → length octets ≡ line_length octets
line_nowhere octets nowhere =
    sym (no_line octets (λ at within. false_from_ne_true (get_or octets at 0 == 10) (λ is. nowhere at (omega arith) within is)))

pub line_found : (octets : List ℕ) (place : ℕ) → IsFirstByte (is_byte 10) octets (Some place) → place + 1 ≡ line_length octets
line_found octets place found =
    omega (arith, line_until octets place found.0.high (λ at low. false_from_ne_true (get_or octets at 0 == 10) (λ is. found.0.before at (omega arith) low is)) found.1)

-- the first line, and then those of the rest
abbrev Cut : List ℕ → Type 0
Cut octets = lines_of octets ≡ take (line_length octets) octets ∷ lines_of (drop (line_length octets) octets)

-- the first octet is no LF
cut_later : (octet : ℕ) (octets : List ℕ) → (0 < length octets → Cut octets)
    → after_octet octet (lines_of octets) ≡ (octet ∷ take (line_length octets) octets) ∷ lines_of (drop (line_length octets) octets)
cut_later octet [] rest = refl
cut_later octet (next ∷ more) rest = ap (after_octet octet) (rest (omega arith))

-- the first octet is an LF or not
cut_either : (octet : ℕ) (octets : List ℕ) (is : Bool) → (0 < length octets → Cut octets)
    → (if is then (octet ∷ []) ∷ lines_of octets else after_octet octet (lines_of octets))
    ≡ take (if is then 1 else suc (line_length octets)) (octet ∷ octets)
    ∷ lines_of (drop (if is then 1 else suc (line_length octets)) (octet ∷ octets))
cut_either octet octets true rest = refl
cut_either octet octets false rest = cut_later octet octets rest

pub first_and_rest : (octets : List ℕ) → 0 < length octets → Cut octets
first_and_rest [] some = absurd (omega (arith, some))
first_and_rest (octet ∷ octets) some = cut_either octet octets (octet == 10) (first_and_rest octets)

-- a line was put, and the others are left
pub line_put : (waiting new : Waiting) (rest line others : List ℕ) (count : ℕ) → count ≡ line_length rest → line ≡ take count rest → others ≡ drop count rest → 0 < length rest → new ≡ with_line waiting line → with_lines new (lines_of others) ≡ with_lines waiting (lines_of rest)
line_put waiting new rest line others count is front back some put =
    rw put (ap (with_lines waiting) cut)
  where
    cut : line ∷ lines_of others ≡ lines_of rest
    cut = rw front (rw back (rw is (sym (first_and_rest rest some))))

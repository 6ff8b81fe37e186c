-- Lines that are counted off octets: where the first one ends, and that no octets are left after the last.
use Rattle.std.proofs.Common.{◌≡◌, ◌<◌, ◌+◌, ◌==◌, ℕ, zero, suc, true, false, List, [], ◌∷◌, length, drop, get_or, None, Some, refl, sym, ap, ◌∙◌, if◌then◌else◌, arith}
use Rattle.std.proofs.lemmas.Bool.{false_from_ne_true}
use Rattle.std.proofs.lemmas.List.{drop_all}
use Rattle.memchr.specs.Find.{IsFirstByte, is_byte}
use Rattle.relay_connections.specs.Share.{line_length, lines_length}

-- no octet is an LF
no_line : (octets : List ℕ) → ((at : ℕ) → at < length octets → (get_or octets at 0 == 10) ≡ false) → line_length octets ≡ length octets
no_line [] none = refl
no_line (octet ∷ octets) none =
    ap (λ is. if is then 1 else suc (line_length octets)) (none 0 (omega arith))
    ∙ ap suc (no_line octets (λ at within. none (suc at) (omega (arith, within))))

-- the first LF stands at this place
line_until : (octets : List ℕ) (place : ℕ) → place < length octets → ((at : ℕ) → at < place → (get_or octets at 0 == 10) ≡ false) → (get_or octets place 0 == 10) ≡ true → line_length octets ≡ suc place
line_until [] place within none here = absurd (omega (arith, within))
line_until (octet ∷ octets) zero within none here = ap (λ is. if is then 1 else suc (line_length octets)) here
line_until (octet ∷ octets) (suc place) within none here =
    ap (λ is. if is then 1 else suc (line_length octets)) (none 0 (omega arith))
    ∙ ap suc (line_until octets place (omega (arith, within)) (λ at low. none (suc at) (omega (arith, low))) here)

-- what a search for an LF answers
pub line_nowhere : (octets : List ℕ) → IsFirstByte (is_byte 10) octets None → length octets ≡ line_length octets
line_nowhere octets nowhere =
    sym (no_line octets (λ at within. false_from_ne_true (get_or octets at 0 == 10) (λ is. nowhere at (omega arith) within is)))

pub line_found : (octets : List ℕ) (place : ℕ) → IsFirstByte (is_byte 10) octets (Some place) → place + 1 ≡ line_length octets
line_found octets place found =
    omega (arith, line_until octets place found.0.high (λ at low. false_from_ne_true (get_or octets at 0 == 10) (λ is. found.0.before at (omega arith) low is)) found.1)

-- where the lines so far have all octets, so have more of them
pub all_lines : (octets : List ℕ) (count more : ℕ) → lines_length count octets ≡ length octets → lines_length (count + more) octets ≡ length octets
all_lines octets count zero all = ap (λ number. lines_length number octets) (omega arith) ∙ all
all_lines octets count (suc more) all =
    ap (λ number. lines_length number octets) next
    ∙ ap (λ end. end + line_length (drop end octets)) (all_lines octets count more all)
    ∙ ap (λ rest. length octets + line_length rest) (drop_all (length octets) octets (omega arith))
    ∙ omega arith
  where
    next : count + suc more ≡ suc (count + more)
    next = omega arith

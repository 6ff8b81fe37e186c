-- Parts of a text round an octet.
use Rattle.std.proofs.Common.{◌≡◌, ℕ, ◌+◌, ◌<◌, false, ◌==◌, List, ◌∷◌, length, take, drop, get_or, Option, None, Some, MatchOption, sym, ap, ◌∙◌, arith}
use Rattle.std.specs.List.{position_or_len, slice_split}
use Rattle.std.proofs.lemmas.List.{get_or_default, length-drop, take_all, drop_all}
use Rattle.std.proofs.lemmas.List.Sums.{position_or_len_is}
use Rattle.std.proofs.lemmas.List.Splits.{slice_split_first, slice_split_none}
use Rattle.std.proofs.lemmas.Bool.{false_from_ne_true}
use Rattle.memchr.specs.Find.{NoneBefore, Passes, IsFirstByte, is_byte}
use Rattle.relay_envelope.specs.Parameters.{FirstPart, OnePart, is_octet}

first_place : (octet : ℕ) (text : List ℕ) (place : ℕ) → NoneBefore (Passes (is_byte octet) text) 0 (length text) place → Passes (is_byte octet) text place → position_or_len (is_octet octet) text ≡ place
first_place octet text place none here =
    let high = none.high in
    position_or_len_is (is_octet octet) text place 0 (omega arith)
    (λ k below. false_from_ne_true (get_or text k 0 == octet) (λ h. none.before k (omega arith) below h))
    (λ within. here)

found_part : (octet : ℕ) (text : List ℕ) (place : ℕ) → position_or_len (is_octet octet) text ≡ place → place < length text → FirstPart octet text (take place text) (drop (place + 1) text)
found_part octet text place e h =
    let within : position_or_len (is_octet octet) text < length text = omega arith in
    let short = length-drop (place + 1) text in
    record {
      parts = slice_split_first (is_octet octet) text 0 within ∙ ap (λ n. take n text ∷ slice_split (is_octet octet) (drop (n + 1) text)) e;
      front_is = ap (λ n. take n text) (sym e);
      back_is = ap (λ n. drop (n + 1) text) (sym e);
      shorter = omega (arith, short);
    }

one_part : (octet : ℕ) (text : List ℕ) → ((k : ℕ) → k < length text → get_or text k 0 == octet ≡ false) → OnePart octet text
one_part octet text nowhere =
    let e = position_or_len_is (is_octet octet) text (length text) 0 (omega arith) nowhere (λ past. absurd (omega arith)) in
    record {
      parts = slice_split_none (is_octet octet) text (λ k d h. ap (λ o. o == octet) (sym (get_or_default text k 0 d h)) ∙ nowhere k h);
      front_is = sym (take_all (length text) text (omega arith)) ∙ ap (λ n. take n text) (sym e);
      back_is = sym (drop_all (length text + 1) text (omega arith)) ∙ ap (λ n. drop (n + 1) text) (sym e);
    }

-- what a search from the front answers
pub first_part_answer : (octet : ℕ) (text : List ℕ) (answer : Option ℕ) → IsFirstByte (is_byte octet) text answer → MatchOption answer (OnePart octet text) (λ place. FirstPart octet text (take place text) (drop (place + 1) text))
first_part_answer octet text None nowhere =
    one_part octet text (λ k h. false_from_ne_true (get_or text k 0 == octet) (λ e. nowhere k (omega arith) h e))
first_part_answer octet text (Some place) found =
    found_part octet text place (first_place octet text place found.0 found.1) found.0.high

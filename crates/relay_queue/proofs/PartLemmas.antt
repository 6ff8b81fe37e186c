-- Parts of a text between commas.
use Rattle.std.proofs.Common.{◌≡◌, ℕ, ◌+◌, ◌<◌, Bool, true, false, ◌||◌, ◌==◌, List, ◌∷◌, length, take, drop, get_or, Option, None, Some, MatchOption, refl, sym, ap, ◌∙◌, arith}
use Rattle.std.specs.List.{list_any, position_or_len, slice_split}
use Rattle.std.proofs.lemmas.List.{get_or_default, length-drop}
use Rattle.std.proofs.lemmas.List.Sums.{position_or_len_is}
use Rattle.std.proofs.lemmas.List.Splits.{slice_split_first, slice_split_none}
use Rattle.std.proofs.lemmas.Bool.{false_from_ne_true}
use Rattle.memchr.specs.Find.{NoneBefore, Passes, IsFirstByte, is_byte}
use Rattle.relay_lines.specs.Word.{is_word}
use Rattle.relay_queue.specs.Selection.{FirstPart, OnePart, has_part, is_comma}

first_place : (text : List ℕ) (place : ℕ) → NoneBefore (Passes (is_byte 44) text) 0 (length text) place → Passes (is_byte 44) text place → position_or_len is_comma text ≡ place
first_place text place none here =
    let high = none.high in
    position_or_len_is is_comma text place 0 (omega arith)
    (λ k below. false_from_ne_true (get_or text k 0 == 44) (λ h. none.before k (omega arith) below h))
    (λ within. here)

found_part : (text : List ℕ) (place : ℕ) → position_or_len is_comma text ≡ place → place < length text → FirstPart text (take place text) (drop (place + 1) text)
found_part text place e h =
    let within : position_or_len is_comma text < length text = omega arith in
    let short = length-drop (place + 1) text in
    record {
      parts = slice_split_first is_comma text 0 within ∙ ap (λ n. take n text ∷ slice_split is_comma (drop (n + 1) text)) e;
      shorter = omega (arith, short);
    }

one_part : (text : List ℕ) → ((k : ℕ) → k < length text → get_or text k 0 == 44 ≡ false) → OnePart text
one_part text nowhere =
    record {
      parts = slice_split_none is_comma text (λ k d h. ap (λ o. o == 44) (sym (get_or_default text k 0 d h)) ∙ nowhere k h);
    }

-- the result of a search from the front
pub first_part_answer : (text : List ℕ) (answer : Option ℕ) → IsFirstByte (is_byte 44) text answer → MatchOption answer (OnePart text) (λ place. FirstPart text (take place text) (drop (place + 1) text))
first_part_answer text None nowhere =
    one_part text (λ k h. false_from_ne_true (get_or text k 0 == 44) (λ e. nowhere k (omega arith) h e))
first_part_answer text (Some place) found =
    found_part text place (first_place text place found.0 found.1) found.0.high

-- the first part is the word, or it isn't and the others decide
pub has_first_part : (word text front back : List ℕ) → FirstPart text front back → is_word front word ≡ true → has_part word text ≡ true
has_first_part word text front back first is =
    ap (λ parts. list_any (λ part. is_word part word) parts) first.parts ∙ ap (λ b. b || has_part word back) is

pub has_later_part : (word text front back : List ℕ) → FirstPart text front back → is_word front word ≡ false → has_part word text ≡ has_part word back
has_later_part word text front back first is =
    ap (λ parts. list_any (λ part. is_word part word) parts) first.parts ∙ ap (λ b. b || has_part word back) is

or-false : (b : Bool) → (b || false) ≡ b
or-false true = refl
or-false false = refl

pub has_only_part : (word text : List ℕ) → OnePart text → has_part word text ≡ is_word text word
has_only_part word text one =
    ap (λ parts. list_any (λ part. is_word part word) parts) one.parts ∙ or-false (is_word text word)

-- Rows of words: how a text is one, and what a further word does to what a row gives.
use Rattle.std.proofs.Common.{◌≡◌, ◌≢◌, ℕ, ◌==◌, Bool, true, false, List, [], ◌∷◌, ◌++◌, length, Option, Some, None, refl, sym, ap, ◌∙◌, arith, append_assoc, map, if◌then◌else◌}
use Rattle.std.specs.List.{AllByRecursion, join_with_byte, onto_first, slice_split}
use Rattle.std.proofs.lemmas.List.Splits.{length-slice_split, slice_split-cons_no, slice_split-cons_yes, join_with_byte-slice_split}
use Rattle.std.proofs.lemmas.Bool.{eqb-true, false_from_ne_true}
use Rattle.std.specs.Char.{to_ascii_lowercase}
use Rattle.relay_lines.proofs.Theorems.{same_word}
use Rattle.relay_envelope.specs.Parameters.{is_octet, keyword_of, value_of_word}
use Rattle.relay_envelope.specs.ParameterRow.{IsGiven, IsKnown, IsRowOf, NoneHas, TextIsRow, has_keyword}

-- the octet is no space
no_space : (octet : ℕ) → octet ≢ 32 → is_octet 32 octet ≡ false
no_space octet other = false_from_ne_true (octet == 32) (λ h. other (eqb-true octet 32 h))

-- a word before a space
split_word : (word text : List ℕ) → AllByRecursion (λ octet. octet ≢ 32) word → slice_split (is_octet 32) (word ++ 32 ∷ text) ≡ word ∷ slice_split (is_octet 32) text
split_word [] text h = slice_split-cons_yes (is_octet 32) 32 text refl
split_word (octet ∷ word) text h =
    slice_split-cons_no (is_octet 32) octet (word ++ 32 ∷ text) (no_space octet h.0) ∙ ap (onto_first octet) (split_word word text h.1)

-- a last word
split_last : (word : List ℕ) → AllByRecursion (λ octet. octet ≢ 32) word → slice_split (is_octet 32) word ≡ word ∷ []
split_last [] h = refl
split_last (octet ∷ word) h =
    slice_split-cons_no (is_octet 32) octet word (no_space octet h.0) ∙ ap (onto_first octet) (split_last word h.1)

-- words without a space are the parts of what they are joined to
split_joined : (words : List (List ℕ)) → words ≢ [] → AllByRecursion (λ word. AllByRecursion (λ octet. octet ≢ 32) word) words → slice_split (is_octet 32) (join_with_byte 32 words) ≡ words
split_joined [] some h = absurd (some refl)
split_joined (word ∷ []) some h = split_last word h.0
split_joined (word ∷ next ∷ words) some h =
    split_word word (join_with_byte 32 (next ∷ words)) h.0 ∙ ap (λ l. word ∷ l) (split_joined (next ∷ words) (λ e. let no : ⊥ = cc in no) h.1)

-- the parts of a text that is a row are its words
pub row_parts : (text : List ℕ) (words : List (List ℕ)) → IsRowOf text words → slice_split (is_octet 32) text ≡ words
row_parts text words r = ap (slice_split (is_octet 32)) r.text_is ∙ split_joined words r.some r.apart

-- what holds of two rows holds of both
pub all_append : (P : List ℕ → Type 0) (xs ys : List (List ℕ)) → AllByRecursion P xs → AllByRecursion P ys → AllByRecursion P (xs ++ ys)
all_append P [] ys one two = two
all_append P (x ∷ xs) ys one two = (one.0, all_append P xs ys one.1 two)

-- after a word of another keyword
pub given_as_before : {V : Type 0} (keyword : List ℕ) (read : List ℕ → Option V) (before : List (List ℕ)) (word : List ℕ) (value : Option V) → IsGiven keyword read before value → has_keyword keyword word ≡ false → IsGiven keyword read (before ++ word ∷ []) value
given_as_before keyword read before word None none other = all_append _ before (word ∷ []) none (other, tt)
given_as_before keyword read before word (Some value) one other = record {
  before = one.before;
  word = one.word;
  after = one.after ++ word ∷ [];
  words_are = ap (λ l. l ++ word ∷ []) one.words_are ∙ append_assoc one.before (one.word ∷ one.after) (word ∷ []);
  none_before = one.none_before;
  here = one.here;
  none_after = all_append _ one.after (word ∷ []) one.none_after (other, tt);
  value_is = one.value_is;
}

-- after the first word of this keyword
pub given_now : {V : Type 0} (keyword : List ℕ) (read : List ℕ → Option V) (before : List (List ℕ)) (word : List ℕ) (value : V) → NoneHas keyword before → has_keyword keyword word ≡ true → read (value_of_word word) ≡ Some value → IsGiven keyword read (before ++ word ∷ []) (Some value)
given_now keyword read before word value none here is = record {
  before = before;
  word = word;
  after = [];
  words_are = refl;
  none_before = none;
  here = here;
  none_after = tt;
  value_is = is;
}

-- one word more is known
pub known_more : (first second : List ℕ) (before : List (List ℕ)) (word : List ℕ) → AllByRecursion (IsKnown first second) before → IsKnown first second word → AllByRecursion (IsKnown first second) (before ++ word ∷ [])
known_more first second before word known here = all_append _ before (word ∷ []) known (here, tt)

-- two words of other lengths are two keywords
pub one_keyword : (one two word : List ℕ) → (length (map to_ascii_lowercase one) ≡ length (map to_ascii_lowercase two) → ⊥) → has_keyword one word ≡ true → has_keyword two word ≡ false
one_keyword one two word apart here =
    false_from_ne_true (has_keyword two word) (λ there. apart (ap length (sym (same_word (keyword_of word) one here) ∙ same_word (keyword_of word) two there)))

-- no text is longer than nothing
pub empty_word : (word : List ℕ) → (length word == 0) ≡ true → word ≡ []
empty_word [] e = refl
empty_word (octet ∷ word) e = let zero : length (octet ∷ word) ≡ 0 = eqb-true (length (octet ∷ word)) 0 e in absurd (omega arith)

pub some_word : (word : List ℕ) → (length word == 0) ≡ false → word ≢ []
some_word word e empty = let zero : (length word == 0) ≡ true = ap (λ (l : List ℕ). length l == 0) empty in cc

-- a word with one octet more
apart_onto : (octet : ℕ) (words : List (List ℕ)) → octet ≢ 32 → AllByRecursion (λ word. AllByRecursion (λ o. o ≢ 32) word) words → AllByRecursion (λ word. AllByRecursion (λ o. o ≢ 32) word) (onto_first octet words)
apart_onto octet [] other h = ((other, tt), tt)
apart_onto octet (word ∷ words) other h = ((other, h.0), h.1)

apart_by : (octet : ℕ) (words : List (List ℕ)) (test : Bool) → (octet == 32) ≡ test → AllByRecursion (λ word. AllByRecursion (λ o. o ≢ 32) word) words → AllByRecursion (λ word. AllByRecursion (λ o. o ≢ 32) word) (if test then [] ∷ words else onto_first octet words)
apart_by octet words true e h = (tt, h)
apart_by octet words false e h =
    apart_onto octet words (λ same. let yes : (octet == 32) ≡ true = ap (λ (o : ℕ). o == 32) same in cc) h

-- the parts of a text have no space
parts_apart : (text : List ℕ) → AllByRecursion (λ word. AllByRecursion (λ o. o ≢ 32) word) (slice_split (is_octet 32) text)
parts_apart [] = (tt, tt)
parts_apart (octet ∷ text) = apart_by octet (slice_split (is_octet 32) text) (octet == 32) refl (parts_apart text)

-- the parts of a text are a row
pub text_is_row : TextIsRow
text_is_row text = (
  slice_split (is_octet 32) text,
  record {
    some = λ none. let long = length-slice_split (is_octet 32) text in let no : length (slice_split (is_octet 32) text) ≡ 0 = ap length none in absurd (omega (arith, long, no));
    apart = parts_apart text;
    text_is = sym (join_with_byte-slice_split 32 text);
  },
)

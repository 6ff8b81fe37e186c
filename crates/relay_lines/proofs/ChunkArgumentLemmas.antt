-- The argument of BDAT: what is read of it is what it spells.
use Rattle.std.proofs.Common.{◌≡◌, ℕ, suc, ◌+◌, ◌<◌, ◌≤◌, Bool, true, false, List, [], ◌∷◌, ◌++◌, codes, decimal, ◌^◌, lit≤, map, length, get_or, take, drop, Option, None, Some, is_some, option_map, Result, Ok, Err, Bor, IsTrue, ◌↔◌, rules, nat_lt, nat_le, not, ◌==◌, inl, inr, refl, sym, ap, subst, ◌∙◌, arith, length-append, drop-cons}
use Rattle.std.proofs.lemmas.List.{append-nil, map-append, take-append-drop, take_at, length-take, get_or-take, get_or_append_left, get_or_at}
use Rattle.std.proofs.lemmas.List.Sums.{prefix_len_passes, prefix_len_stops, prefix_len-le-length, list_all-from_AllPass, AllPass-from_list_all}
use Rattle.std.proofs.lemmas.Bool.{cases_Bool, cond-true, cond-false, and_parts, and_from, ltb-true, leb-true, lt-ltb, eq-eqb, ne_eqb, eqb-true, eqb-false, le-leb, false_from_ne_true, false≢true}
use Rattle.std.proofs.lemmas.Bool.Decides.{nat_tests}
use Rattle.std.specs.Char.{is_ascii_digit, to_ascii_lowercase}
use Rattle.std.specs.Int.{is_in_range}
use Rattle.std.specs.List.{list_all, prefix_len, AllPass}
use Rattle.std.specs.Option.{option_copied}
use Rattle.std.specs.Result.{result_ok}
use Rattle.std.specs.Str.{IsUtf8}
use Rattle.std.specs.Str.Parse.{digits_value, ParsesUnsigned}
use Rattle.std.proofs.lemmas.Fmt.{IsAscii-from_digits, decimal_is_IsNumeral, digits_decimal, length-decimal-le}
use Rattle.std.proofs.lemmas.Str.{IsUtf8-from_ascii}
use Rattle.std.proofs.lemmas.Str.Parse.{IsNumeralModel, numerals_by_value, parse_digits}
use Rattle.relay_octets.specs.LetterCase.{IsSameWord}
use Rattle.relay_lines.specs.Word.{is_space, is_no_space, word_len, space_len, first_word, argument_of, is_word, after_keyword}
use Rattle.relay_lines.specs.ChunkArgument.{IsChunkSize, IsEndMarker, StandsAfterSize, SpellsBdat, BeginsWithBdat, are_digits, are_size_digits, size_of_digits, chunk_size_of, with_size, bdat_argument_of, begins_with_bdat, BdatArgumentIsOfSpelling, OneBdatArgument, ElevenDigitsAreTooMany, LeadingZeroSaysNothing, BdatBeginningIsTested, DecimalIsChunkSize}
use Rattle.relay_lines.specs.declared.chunk_argument.BdatArgument.{BdatArgument}
use Rattle.relay_lines.proofs.WordLemmas.{AllPass-weaker, first_word-join, argument_of-join, same_word, is_word-same, length-same_word}

-- the size that is found is a chunk-size
size_from : (text : List ℕ) (size : ℕ) → chunk_size_of text ≡ Some size → IsChunkSize text size
unfolding chunk_size_of size_of_digits are_size_digits are_digits
size_from text size found =
    elim (cases_Bool (are_size_digits text)) [
      | inl here ↦ elim (cases_Bool (nat_lt (digits_value 10 text) 4294967296)) [
        | inl fits ↦
            let same : Some (digits_value 10 text) ≡ Some size =
            sym
            (cond-true (are_size_digits text) (size_of_digits text) None here ∙ cond-true (nat_lt (digits_value 10 text) 4294967296) (Some (digits_value 10 text)) None fits)
            ∙ found in
            let value : digits_value 10 text ≡ size = cc in
            let parts = and_parts (is_in_range 1 10 (length text)) (list_all is_ascii_digit text) here in
            let range = and_parts (nat_le 1 (length text)) (nat_le (length text) 10) parts.0 in
            let below = ltb-true (digits_value 10 text) 4294967296 fits in
            record {
              some = leb-true 1 (length text) range.0;
              few = leb-true (length text) 10 range.1;
              digits = AllPass-from_list_all is_ascii_digit text parts.1;
              value = value;
              fits = subst (λ (n : ℕ). n < 4294967296) value below;
            }
        | inr big ↦
            absurd
            (let none = cond-true (are_size_digits text) (size_of_digits text) None here ∙ cond-false (nat_lt (digits_value 10 text) 4294967296) (Some (digits_value 10 text)) None big in cc)
      ]
      | inr not_here ↦
          absurd
          (let none = cond-false (are_size_digits text) (size_of_digits text) None not_here in cc)
    ]

-- and a chunk-size is found
size_to : (text : List ℕ) (size : ℕ) → IsChunkSize text size → chunk_size_of text ≡ Some size
unfolding chunk_size_of size_of_digits are_size_digits are_digits
size_to text size is =
    let here = and_from (is_in_range 1 10 (length text)) (list_all is_ascii_digit text)
    (and_from (nat_le 1 (length text)) (nat_le (length text) 10) (le-leb 1 (length text) is.some) (le-leb (length text) 10 is.few))
    (list_all-from_AllPass is_ascii_digit text is.digits) in
    let below = subst (λ (n : ℕ). n < 4294967296) (sym is.value) is.fits in
    cond-true (are_size_digits text) (size_of_digits text) None here
    ∙ cond-true (nat_lt (digits_value 10 text) 4294967296) (Some (digits_value 10 text)) None
    (lt-ltb (digits_value 10 text) 4294967296 below)
    ∙ ap Some is.value

-- a size with its mark
mapped : (last : Bool) (found : Option ℕ) (argument : BdatArgument)
    → option_map (with_size last) found ≡ Some argument
    → (found ≡ Some argument.size) × (last ≡ argument.last)
mapped last None argument e = cc
mapped last (Some size) argument e =
    let same : with_size last size ≡ argument = cc in
    (ap (λ (a : BdatArgument). Some a.size) same, ap (λ (a : BdatArgument). a.last) same)

-- no digit is a space
digit-no_space : (octet : ℕ) → is_ascii_digit octet ≡ true → is_no_space octet ≡ true
digit-no_space octet test = grind (arith, nat_tests)

digits_have_no_space : (digits : List ℕ) → AllPass is_ascii_digit digits
    → AllPass is_no_space digits
digits_have_no_space digits all = AllPass-weaker is_ascii_digit is_no_space digits digit-no_space all

-- LAST begins with no space
last_begins : (word : List ℕ) → IsSameWord word (codes "LAST") → prefix_len is_space word ≡ 0
last_begins [] same = refl
last_begins (octet ∷ word) same =
    elim (cases_Bool (is_space octet)) [
      | inl here ↦ let space = ap to_ascii_lowercase (eqb-true octet 32 here) in cc
      | inr not_here ↦ cond-false (is_space octet) _ _ not_here
    ]

-- what is spelled is read
spelled_is_read : (text : List ℕ) (last : Bool) (size : ℕ) → SpellsBdat text (with_size last size)
    → bdat_argument_of text ≡ Some (with_size last size)
unfolding bdat_argument_of
spelled_is_read text false size spells =
    let alone = spells.text_is ∙ ap (λ b. spells.digits ++ b) spells.last_is in
    let digits = alone ∙ append-nil spells.digits in
    let word =
    ap first_word alone
    ∙ first_word-join spells.digits [] [] (digits_have_no_space spells.digits spells.size_is.digits)
    (AllPass-from_list_all is_space [] refl) (λ e. refl) in
    let same = ap length (word ∙ sym digits) in
    cond-true (length (first_word text) == length text) _ _
    (eq-eqb (length (first_word text)) (length text) same)
    ∙ ap (option_map (with_size false)) (ap chunk_size_of digits ∙ size_to spells.digits size spells.size_is)
spelled_is_read text true size spells =
    let marker = spells.last_is in
    let all = spells.text_is ∙ ap (λ b. spells.digits ++ b) marker.text_is in
    let free = digits_have_no_space spells.digits spells.size_is.digits in
    let apart : (marker.spaces ≡ [] → marker.word ≡ []) =
    λ none. absurd (let short = ap length none in omega (arith, short, marker.some)) in
    let word =
    ap first_word all
    ∙ first_word-join spells.digits marker.spaces marker.word free marker.are_spaces apart in
    let rest =
    ap argument_of all
    ∙ argument_of-join spells.digits marker.spaces marker.word free marker.are_spaces apart
    (last_begins marker.word marker.is_last) in
    let long = ap length all ∙ length-append spells.digits (marker.spaces ++ marker.word) in
    let more = length-append marker.spaces marker.word in
    let short = ap length word in
    let differs : length (first_word text) ≡ length text → ⊥ =
    λ e. omega (arith, e, long, more, short, marker.some) in
    cond-false (length (first_word text) == length text) _ _
    (ne_eqb (length (first_word text)) (length text) differs)
    ∙ cond-true (is_word (argument_of text) (codes "LAST")) _ _
    (ap (λ w. is_word w (codes "LAST")) rest ∙ is_word-same marker.word (codes "LAST") marker.is_last)
    ∙ ap (option_map (with_size true)) (ap chunk_size_of word ∙ size_to spells.digits size spells.size_is)

-- the spaces that a text begins with are spaces
spaces_are : (text : List ℕ) → AllPass is_space (take (prefix_len is_space text) text)
spaces_are text k d h =
    let few = length-take (prefix_len is_space text) text in
    let within : k < prefix_len is_space text = omega (arith, few) in
    ap is_space (get_or-take (prefix_len is_space text) text k d within)
    ∙ prefix_len_passes is_space text k d within

true_from_not : (b : Bool) → not b ≡ false → b ≡ true
true_from_not true e = refl
true_from_not false e = cc

-- after a first word that isn't all of the text stands a space
space_after : (text : List ℕ) → prefix_len is_no_space text < length text
    → 1 ≤ length
    (take (prefix_len is_space (drop (prefix_len is_no_space text) text)) (drop (prefix_len is_no_space text) text))
space_after text more =
    let n = prefix_len is_no_space text in
    let here : is_space (get_or text n 0) ≡ true =
    true_from_not (is_space (get_or text n 0)) (prefix_len_stops is_no_space text 0 more) in
    let front : drop n text ≡ get_or text n 0 ∷ drop (suc n) text = drop-cons text n 0 more in
    let counted =
    ap (prefix_len is_space) front
    ∙ cond-true (is_space (get_or text n 0)) (1 + prefix_len is_space (drop (suc n) text)) 0 here in
    let few = length-take (prefix_len is_space (drop n text)) (drop n text) in
    let rest = ap length front in
    omega (arith, counted, few, rest)

-- what is read is spelled
read_is_spelled : (text : List ℕ) (argument : BdatArgument) → bdat_argument_of text ≡ Some argument
    → SpellsBdat text argument
unfolding bdat_argument_of first_word argument_of word_len space_len
read_is_spelled text argument found =
    elim (cases_Bool (length (first_word text) == length text)) [
      | inl alone ↦
          let sized =
          mapped false (chunk_size_of text) argument
          (sym (cond-true (length (first_word text) == length text) _ _ alone) ∙ found) in
          record {
            digits = text;
            after = [];
            text_is = sym (append-nil text);
            size_is = size_from text argument.size sized.0;
            last_is = subst (λ (last : Bool). StandsAfterSize last []) sized.1 refl;
          }
      | inr more ↦
          let marked = sym (cond-false (length (first_word text) == length text) _ _ more) ∙ found in
          elim (cases_Bool (is_word (argument_of text) (codes "LAST"))) [
            | inl last ↦
                let sized =
                mapped true (chunk_size_of (first_word text)) argument
                (sym (cond-true (is_word (argument_of text) (codes "LAST")) _ _ last) ∙ marked) in
                let n = prefix_len is_no_space text in
                let after = drop n text in
                let differs = eqb-false (length (first_word text)) (length text) more in
                let few = length-take n text in
                let within = prefix_len-le-length is_no_space text in
                let marker : IsEndMarker after = record {
                  spaces = take (prefix_len is_space after) after;
                  word = argument_of text;
                  text_is = sym (take-append-drop (prefix_len is_space after) after);
                  some = space_after text (omega (arith, differs, few, within));
                  are_spaces = spaces_are after;
                  is_last = same_word (argument_of text) (codes "LAST") last;
                } in
                record {
                  digits = first_word text;
                  after = after;
                  text_is = sym (take-append-drop n text);
                  size_is = size_from (first_word text) argument.size sized.0;
                  last_is = subst (λ (last : Bool). StandsAfterSize last after) sized.1 marker;
                }
            | inr other ↦
                absurd
                (let none = sym (cond-false (is_word (argument_of text) (codes "LAST")) _ _ other) ∙ marked in cc)
          ]
    ]

pub bdat_argument_is_of_spelling : BdatArgumentIsOfSpelling
bdat_argument_is_of_spelling text argument =
    (read_is_spelled text argument, spelled_is_read text argument.last argument.size)

pub one_bdat_argument : OneBdatArgument
one_bdat_argument text argument other one two =
    let same =
    sym (spelled_is_read text argument.last argument.size one)
    ∙ spelled_is_read text other.last other.size two in
    cc

pub leading_zero_says_nothing : LeadingZeroSaysNothing
leading_zero_says_nothing digits size is few = record {
  some = omega arith;
  few = omega arith;
  digits =
      AllPass-from_list_all is_ascii_digit (codes "0" ++ digits)
      (list_all-from_AllPass is_ascii_digit digits is.digits);
  value = is.value;
  fits = is.fits;
}

-- after digits of a size that ends within a row of digits stands neither nothing nor a space
size_ends_with_digits : (digits after : List ℕ) → AllPass is_ascii_digit digits
    → 10 < length digits → (last : Bool) (size : ℕ)
    → SpellsBdat (digits ++ after) (with_size last size) → ⊥
size_ends_with_digits digits after all many false size spells =
    let long =
    ap length
    (spells.text_is ∙ ap (λ b. spells.digits ++ b) spells.last_is ∙ append-nil spells.digits) in
    let whole = length-append digits after in
    omega (arith, long, whole, spells.size_is.few)
size_ends_with_digits digits after all many true size spells =
    marked spells.last_is.spaces spells.last_is.some spells.last_is.are_spaces
    (spells.text_is ∙ ap (λ b. spells.digits ++ b) spells.last_is.text_is)
  where
    marked : (spaces : List ℕ) → 1 ≤ length spaces → AllPass is_space spaces → digits ++ after ≡ spells.digits ++ (spaces ++ spells.last_is.word) → ⊥
    marked [] some are text_is = omega (arith, some)
    marked (space ∷ spaces) some are text_is =
        let n = length spells.digits in
        let within : n < length digits = omega (arith, spells.size_is.few) in
        let here =
        sym (get_or_append_left digits after 0 n within) ∙ ap (λ l. get_or l n 0) text_is
        ∙ get_or_at spells.digits space (spaces ++ spells.last_is.word) 0 n refl in
        let digit : is_no_space space ≡ true =
        digit-no_space space (ap is_ascii_digit (sym here) ∙ all n 0 within) in
        let blank : is_space space ≡ true = are 0 0 (omega arith) in
        false≢true (ap not (sym blank) ∙ digit)

pub eleven_digits_are_too_many : ElevenDigitsAreTooMany
eleven_digits_are_too_many digits after all many argument spells =
    size_ends_with_digits digits after all many argument.last argument.size spells

-- what is a space in lower case is one
lower_space : (octet : ℕ) → to_ascii_lowercase octet ≡ 32 → octet ≡ 32
lower_space octet same = grind (arith, nat_tests)

-- BDAT and a space, in any letter case, is a word and a space
bdat_and_space : (front : List ℕ) → IsSameWord front (codes "BDAT ")
    → (word : List ℕ) × IsSameWord word (codes "BDAT") × (front ≡ word ++ codes " ")
bdat_and_space [] same = cc
bdat_and_space (b ∷ []) same = cc
bdat_and_space (b ∷ d ∷ []) same = cc
bdat_and_space (b ∷ d ∷ a ∷ []) same = cc
bdat_and_space (b ∷ d ∷ a ∷ t ∷ []) same = cc
bdat_and_space (b ∷ d ∷ a ∷ t ∷ space ∷ []) same =
    let lower : to_ascii_lowercase space ≡ 32 = cc in
    let word : map to_ascii_lowercase (b ∷ d ∷ a ∷ t ∷ []) ≡ map to_ascii_lowercase (codes "BDAT") =
    ap (take 4) same in
    (b ∷ d ∷ a ∷ t ∷ [], word, ap (λ o. b ∷ d ∷ a ∷ t ∷ o ∷ []) (lower_space space lower))
bdat_and_space (b ∷ d ∷ a ∷ t ∷ space ∷ other ∷ more) same = cc

beginning_from : (line : List ℕ) → begins_with_bdat line ≡ true → BeginsWithBdat line
unfolding begins_with_bdat
beginning_from line test =
    let parts = bdat_and_space (take 5 line) (same_word (take 5 line) (codes "BDAT ") test) in
    record {
      word = parts.0;
      rest = drop 5 line;
      same = parts.1;
      line_is = sym (take-append-drop 5 line) ∙ ap (λ l. l ++ drop 5 line) parts.2;
    }

beginning_to : (line : List ℕ) → BeginsWithBdat line → begins_with_bdat line ≡ true
unfolding begins_with_bdat
beginning_to line begins =
    let four : length begins.word ≡ 4 = length-same_word begins.word (codes "BDAT") begins.same in
    let five = length-append begins.word (codes " ") in
    let front =
    ap (take 5) begins.line_is
    ∙ take_at (begins.word ++ codes " ") begins.rest 5 (omega (arith, five, four)) in
    let same = map-append to_ascii_lowercase begins.word (codes " ") ∙ ap (λ l. l ++ codes " ") begins.same in
    ap (λ l. is_word l (codes "BDAT ")) front ∙ is_word-same (begins.word ++ codes " ") (codes "BDAT ") same

pub bdat_beginning_is_tested : BdatBeginningIsTested
bdat_beginning_is_tested line = (beginning_from line, beginning_to line)

-- a keyword is found exactly where its test passes
pub keyword_is_some : (keyword text : List ℕ) (found : Option (Bor (List ℕ)))
    → option_copied found ≡ after_keyword keyword text
    → is_some found ≡ is_word (take (length keyword) text) keyword
unfolding after_keyword
keyword_is_some keyword text None e =
    elim (cases_Bool (is_word (take (length keyword) text) keyword)) [
      | inl here ↦
          let some = cond-true (is_word (take (length keyword) text) keyword) (Some (drop (length keyword) text)) None here in
          cc
      | inr not_here ↦ sym not_here
    ]
keyword_is_some keyword text (Some after) e =
    elim (cases_Bool (is_word (take (length keyword) text) keyword)) [
      | inl here ↦ sym here
      | inr not_here ↦
          let none = cond-false (is_word (take (length keyword) text) keyword) (Some (drop (length keyword) text)) None not_here in
          cc
    ]

-- the test of the first five octets, as a keyword is found
pub bdat_is_found : (line : List ℕ) (found : Option (Bor (List ℕ)))
    → option_copied found ≡ after_keyword (codes "BDAT ") line
    → is_some found ≡ begins_with_bdat line
unfolding begins_with_bdat
bdat_is_found line found e = keyword_is_some (codes "BDAT ") line found e

pub begins_by_test : (line : List ℕ) (test : Bool) → test ≡ begins_with_bdat line
    → IsTrue test ↔ BeginsWithBdat line
begins_by_test line test e =
    (λ passes. beginning_from line (sym e ∙ passes), λ begins. e ∙ beginning_to line begins)

-- texts of digits, in the words of numerals
own : IsNumeralModel (λ digits. list_all is_ascii_digit digits ≡ true) (digits_value 10)
own = numerals_by_value _ (search rules)

digits_of_size : (text : List ℕ) → are_size_digits text ≡ true → list_all is_ascii_digit text ≡ true
unfolding are_size_digits are_digits
digits_of_size text size = (and_parts (is_in_range 1 10 (length text)) (list_all is_ascii_digit text) size).1

some_of_size : (text : List ℕ) → are_size_digits text ≡ true → 0 < length text
unfolding are_size_digits are_digits
some_of_size text size =
    let parts = and_parts (is_in_range 1 10 (length text)) (list_all is_ascii_digit text) size in
    leb-true 1 (length text) (and_parts (nat_le 1 (length text)) (nat_le (length text) 10) parts.0).0

-- digits are text
pub size_is_utf8 : (text : List ℕ) → are_size_digits text ≡ true → IsUtf8 text
size_is_utf8 text size =
    IsUtf8-from_ascii text (IsAscii-from_digits text (own.to text (digits_of_size text size)))

-- what is parsed of digits is their number, where it is a chunk-size
pub parsed-size : {E : Type 0} (text : List ℕ) (parsed : Result ℕ E) → are_size_digits text ≡ true
    → ParsesUnsigned 32 10 text parsed → result_ok parsed ≡ size_of_digits text
unfolding size_of_digits
parsed-size {E} text (Ok size) digits parses =
    let gives = parse_digits own {E = E} 32 text (Ok size) parses (digits_of_size text digits) in
    ap Some gives.1
    ∙ sym
    (cond-true (nat_lt (digits_value 10 text) 4294967296) _ _ (lt-ltb (digits_value 10 text) 4294967296 gives.0.1))
parsed-size {E} text (Err fault) digits parses =
    let gives = parse_digits own {E = E} 32 text (Err fault) parses (digits_of_size text digits) in
    sym
    (cond-false (nat_lt (digits_value 10 text) 4294967296) _ _ (false_from_ne_true _ (λ test. gives (some_of_size text digits, ltb-true (digits_value 10 text) 4294967296 test))))

pub decimal_is_chunk_size : DecimalIsChunkSize
decimal_is_chunk_size size small =
    let numeral = decimal_is_IsNumeral size (omega arith) in
    let most : 2 ^ 32 ≤ 10 ^ 10 = lit≤ tt in
    record {
      some = numeral.0.0;
      few = length-decimal-le 10 size (omega arith) (omega arith) (omega arith);
      digits = AllPass-from_list_all is_ascii_digit (decimal size) (digits_decimal own size (omega arith));
      value = numeral.1;
      fits = small;
    }

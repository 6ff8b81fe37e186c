-- Words of a command line: how a line falls into a word and an argument, keywords, and host words.
use Rattle.std.proofs.Common.{◌≡◌, ℕ, ◌+◌, ◌-◌, ◌<◌, Bool, true, false, List, [], ◌∷◌, ◌++◌, map, reverse, length, get_or, take, drop, None, Some, inl, inr, suc, slice_range, slice_index, codes, nat_lt, nat_le, ◌==◌, ◌||◌, sym, ap, subst, refl, ◌∙◌, arith, append_assoc, length-append, length-drop}
use Rattle.std.proofs.lemmas.List.{length-take, length-map, length-reverse, take_all, take_at, drop_at, take-append-drop, reverse-append, reverse-reverse, get_or-reverse, get_or_at, take_more}
use Rattle.std.proofs.lemmas.List.Sums.{prefix_len-drop_no, prefix_len-drop_all, prefix_len_stops, take_while-cons, suffix_len-le-length, list_all-from_AllPass, AllPass-from_list_all}
use Rattle.std.proofs.lemmas.Bool.{cases_lt, cases_Bool, cond_both, cond-true, cond-false, and_parts, and_from, false_from_ne_true, not_from_true, not_from_false, ltb-true, eqb-true, leb-true, lt-ltb, eq-eqb, le-leb, or_cases, or_left, or_right}
use Rattle.std.proofs.lemmas.Bool.Decides.{nat_tests}
use Rattle.std.proofs.lemmas.List.Folds.{list_all-append}
use Rattle.std.specs.Int.{is_in_range}
use Rattle.std.proofs.lemmas.Slice.Eq.{bytes_eq-Decides}
use Rattle.std.specs.List.{list_all, prefix_len, suffix_len, take_while, AllPass}
use Rattle.std.specs.Char.{to_ascii_lowercase, is_ascii_graphic}
use Rattle.relay_octets.specs.LetterCase.{IsSameWord}
use Rattle.relay_lines.specs.Word.{is_printable, is_domain_octet, is_literal_octet, are_domain_octets, are_literal_octets, is_address_literal, is_host_word, IsAddressLiteral, IsHostWord, is_space, is_no_space, is_blank, word_len, space_len, without_trailing_blanks, first_word, argument_of, is_word, after_keyword, SplitsLine, BeginsWithKeyword, AddressLiteralIsTested, HostWordIsTested}

-- a front that passes is counted whole
prefix_len-front : (p : ℕ → Bool) (front rest : List ℕ) → list_all p front ≡ true
    → prefix_len p (front ++ rest) ≡ length front + prefix_len p rest
prefix_len-front p [] rest h = omega arith
prefix_len-front p (x ∷ front) rest h =
    let parts = and_parts (p x) (list_all p front) h in
    let later = prefix_len-front p front rest parts.1 in
    let first = cond-true (p x) (1 + prefix_len p (front ++ rest)) 0 parts.0 in
    let sums : 1 + prefix_len p (front ++ rest) ≡ length (x ∷ front) + prefix_len p rest =
    omega (arith, later) in
    first ∙ sums

-- the counted front passes
list_all-front : (p : ℕ → Bool) (xs : List ℕ) → list_all p (take_while p xs) ≡ true
list_all-front p [] = refl
list_all-front p (x ∷ xs) =
    ap (list_all p) (take_while-cons p x xs)
    ∙ cond_both (p x) (x ∷ take_while p xs) [] (λ l. list_all p l ≡ true)
    (λ here. and_from (p x) (list_all p (take_while p xs)) here (list_all-front p xs))
    (λ not_here. refl)

-- nothing more is counted after it
prefix_len-after : (p : ℕ → Bool) (xs : List ℕ) → prefix_len p (drop (prefix_len p xs) xs) ≡ 0
prefix_len-after p xs =
    elim (cases_lt (prefix_len p xs) (length xs)) [
      | inl h ↦ prefix_len-drop_no p xs (prefix_len p xs) 0 h (prefix_len_stops p xs 0 h)
      | inr h ↦ prefix_len-drop_all p xs (prefix_len p xs) h
    ]

-- what holds of each octet holds of each in the other order
pub AllPass-reverse : (p : ℕ → Bool) (xs : List ℕ) → AllPass p xs → AllPass p (reverse xs)
AllPass-reverse p xs all k d h =
    let same = length-reverse xs in
    let within : k < length xs = omega (arith, same) in
    ap p (get_or-reverse xs k d within) ∙ all (length xs - 1 - k) d (omega arith)

-- where a text ends in no such octet, those after it are counted
suffix_len-join : (p : ℕ → Bool) (text back : List ℕ) → AllPass p back → suffix_len p text ≡ 0
    → suffix_len p (text ++ back) ≡ length back
suffix_len-join p text back all clean =
    let passes = list_all-from_AllPass p (reverse back) (AllPass-reverse p back all) in
    let counted =
    ap (prefix_len p) (reverse-append text back)
    ∙ prefix_len-front p (reverse back) (reverse text) passes in
    let same = length-reverse back in
    omega (arith, counted, same, clean)

-- blanks after a text that ends in none are dropped
pub trim-join : (text blanks : List ℕ) → AllPass is_blank blanks → suffix_len is_blank text ≡ 0
    → without_trailing_blanks (text ++ blanks) ≡ text
unfolding without_trailing_blanks
trim-join text blanks all clean =
    let counted = suffix_len-join is_blank text blanks all clean in
    let whole = length-append text blanks in
    let kept : length (text ++ blanks) - suffix_len is_blank (text ++ blanks) ≡ length text =
    omega (arith, counted, whole) in
    ap (λ n. take n (text ++ blanks)) kept ∙ take_at text blanks (length text) refl

-- a line and its parts in the other order
reverse-parts : (n : ℕ) (line : List ℕ)
    → reverse line ≡ reverse (drop n line) ++ reverse (take n line)
reverse-parts n line = ap reverse (sym (take-append-drop n line)) ∙ reverse-append (take n line) (drop n line)

length-blanks : (line : List ℕ)
    → length
    (reverse (drop (length line - suffix_len is_blank line) line)) ≡ suffix_len is_blank line
length-blanks line =
    let n = length line - suffix_len is_blank line in
    let within = suffix_len-le-length is_blank line in
    let same = length-reverse (drop n line) in
    let rest = length-drop n line in
    omega (arith, within, same, rest)

-- no blank is left at the end
pub trim-clean : (line : List ℕ) → suffix_len is_blank (without_trailing_blanks line) ≡ 0
unfolding without_trailing_blanks
trim-clean line =
    let n = length line - suffix_len is_blank line in
    let back = ap (drop (suffix_len is_blank line)) (reverse-parts n line)
    ∙ drop_at (reverse (drop n line)) (reverse (take n line)) (suffix_len is_blank line)
    (length-blanks line) in
    ap (prefix_len is_blank) (sym back) ∙ prefix_len-after is_blank (reverse line)

-- what was dropped is blank
pub trim-blanks : (line : List ℕ)
    → AllPass is_blank (drop (length line - suffix_len is_blank line) line)
trim-blanks line =
    let n = length line - suffix_len is_blank line in
    let front = ap (take (suffix_len is_blank line)) (reverse-parts n line)
    ∙ take_at (reverse (drop n line)) (reverse (take n line)) (suffix_len is_blank line)
    (length-blanks line) in
    let passes = ap (list_all is_blank) (sym front) ∙ list_all-front is_blank (reverse line) in
    let turned =
    AllPass-reverse is_blank (reverse (drop n line))
    (AllPass-from_list_all is_blank (reverse (drop n line)) passes) in
    subst (AllPass is_blank) (reverse-reverse (drop n line)) turned

-- no word stands before the spaces of an argument
no_word : (spaces argument : List ℕ) → AllPass is_space spaces → (spaces ≡ [] → argument ≡ [])
    → prefix_len is_no_space (spaces ++ argument) ≡ 0
no_word [] argument all apart = ap (prefix_len is_no_space) (apart refl)
no_word (octet ∷ spaces) argument all apart =
    cond-false (is_no_space octet) _ _ (not_from_true (is_space octet) (all 0 0 (omega arith)))

word_len-join : (word spaces argument : List ℕ) → AllPass is_no_space word → AllPass is_space spaces
    → (spaces ≡ [] → argument ≡ []) → word_len (word ++ (spaces ++ argument)) ≡ length word
unfolding word_len
word_len-join word spaces argument free all apart =
    let counted =
    prefix_len-front is_no_space word (spaces ++ argument)
    (list_all-from_AllPass is_no_space word free) in
    let none = no_word spaces argument all apart in
    omega (arith, counted, none)

-- the first word and the argument of a text that is a word, spaces and an argument
pub first_word-join : (word spaces argument : List ℕ) → AllPass is_no_space word
    → AllPass is_space spaces → (spaces ≡ [] → argument ≡ [])
    → first_word (word ++ (spaces ++ argument)) ≡ word
unfolding first_word
first_word-join word spaces argument free all apart =
    take_at word (spaces ++ argument) (word_len (word ++ (spaces ++ argument)))
    (sym (word_len-join word spaces argument free all apart))

pub argument_of-join : (word spaces argument : List ℕ) → AllPass is_no_space word
    → AllPass is_space spaces → (spaces ≡ [] → argument ≡ []) → prefix_len is_space argument ≡ 0
    → argument_of (word ++ (spaces ++ argument)) ≡ argument
unfolding argument_of space_len
argument_of-join word spaces argument free all apart begins =
    let after =
    drop_at word (spaces ++ argument) (word_len (word ++ (spaces ++ argument)))
    (sym (word_len-join word spaces argument free all apart)) in
    let counted = prefix_len-front is_space spaces argument (list_all-from_AllPass is_space spaces all) in
    let many : length spaces ≡ prefix_len is_space (spaces ++ argument) = omega (arith, counted, begins) in
    ap (λ l. drop (prefix_len is_space l) l) after
    ∙ drop_at spaces argument (prefix_len is_space (spaces ++ argument)) many

-- the test of a word says that it is the same in any letter case
pub same_word : (text word : List ℕ) → is_word text word ≡ true → IsSameWord text word
unfolding is_word
same_word text word test =
    (bytes_eq-Decides (map to_ascii_lowercase text) (map to_ascii_lowercase word)).0 test

pub is_word-same : (text word : List ℕ) → IsSameWord text word → is_word text word ≡ true
unfolding is_word
is_word-same text word same =
    (bytes_eq-Decides (map to_ascii_lowercase text) (map to_ascii_lowercase word)).1 same

-- a word in another letter case is as long
pub length-same_word : (text word : List ℕ) → IsSameWord text word → length text ≡ length word
length-same_word text word same =
    sym (length-map text to_ascii_lowercase) ∙ ap length same ∙ length-map word to_ascii_lowercase

-- a text that is shorter than the keyword doesn't begin with it
pub after_keyword_short : (keyword text : List ℕ) → length text < length keyword
    → after_keyword keyword text ≡ None
unfolding after_keyword
after_keyword_short keyword text short =
    cond-false (is_word (take (length keyword) text) keyword) _ _ (false_from_ne_true _ (λ test.
    let same = length-same_word (take (length keyword) text) keyword (same_word _ keyword test) in
    let whole = ap length (take_all (length keyword) text (omega arith)) in
    absurd (omega (arith, same, whole))))

-- the parts of a line, with the text before its trailing blanks
pub text-split : (line word argument : List ℕ) (split : SplitsLine line word argument)
    → without_trailing_blanks line ≡ word ++ (split.spaces ++ argument)
text-split line word argument split =
    ap without_trailing_blanks split.line_is
    ∙ trim-join
    (word ++ split.spaces ++ argument) split.blanks split.are_blanks split.text_ends_in_no_blank
    ∙ append_assoc word split.spaces argument

pub first_word-split : (line word argument : List ℕ) → SplitsLine line word argument
    → first_word (without_trailing_blanks line) ≡ word
first_word-split line word argument split =
    ap first_word (text-split line word argument split)
    ∙ first_word-join word split.spaces argument split.word_has_no_space split.are_spaces split.apart

pub argument_of-split : (line word argument : List ℕ) → SplitsLine line word argument
    → argument_of (without_trailing_blanks line) ≡ argument
argument_of-split line word argument split =
    ap argument_of (text-split line word argument split)
    ∙ argument_of-join word split.spaces argument split.word_has_no_space split.are_spaces split.apart split.argument_begins_with_no_space

-- after the first word stands a space or nothing
apart_after : (after : List ℕ) → prefix_len is_no_space after ≡ 0
    → take (prefix_len is_space after) after ≡ [] → drop (prefix_len is_space after) after ≡ []
apart_after [] begins none = refl
apart_after (octet ∷ after) begins none =
    elim (cases_Bool (is_space octet)) [
      | inl here ↦
          let some = cond-true (is_space octet) (1 + prefix_len is_space after) 0 here in
          let short = ap length none in
          let count = length-take (prefix_len is_space (octet ∷ after)) (octet ∷ after) in
          absurd (omega (arith, some, short, count))
      | inr not_here ↦
          let some =
          cond-true (is_no_space octet) (1 + prefix_len is_no_space after) 0
          (not_from_false (is_space octet) not_here) in
          absurd (omega (arith, some, begins))
    ]

-- every line splits into its first word and its argument
pub line-splits : (line : List ℕ)
    → SplitsLine line (first_word (without_trailing_blanks line))
    (argument_of (without_trailing_blanks line))
unfolding without_trailing_blanks first_word argument_of word_len space_len
line-splits line =
    let text = without_trailing_blanks line in
    let after = drop (prefix_len is_no_space text) text in
    let word = take (prefix_len is_no_space text) text in
    let spaces = take (prefix_len is_space after) after in
    let argument = drop (prefix_len is_space after) after in
    let joined : word ++ spaces ++ argument ≡ text =
    append_assoc word spaces argument
    ∙ ap (λ l. word ++ l) (take-append-drop (prefix_len is_space after) after)
    ∙ take-append-drop (prefix_len is_no_space text) text in
    record {
      spaces = spaces;
      blanks = drop (length line - suffix_len is_blank line) line;
      line_is =
          sym
          (ap (λ l. l ++ drop (length line - suffix_len is_blank line) line) joined ∙ take-append-drop (length line - suffix_len is_blank line) line);
      word_has_no_space = AllPass-from_list_all is_no_space word (list_all-front is_no_space text);
      are_spaces = AllPass-from_list_all is_space spaces (list_all-front is_space after);
      are_blanks = trim-blanks line;
      apart = apart_after after (prefix_len-after is_no_space text);
      argument_begins_with_no_space = prefix_len-after is_space after;
      text_ends_in_no_blank = ap (suffix_len is_blank) joined ∙ trim-clean line;
    }

-- a keyword that a text begins with is found, and what is found stands after it
pub after_keyword-found : (keyword text rest : List ℕ) → BeginsWithKeyword text keyword rest
    → after_keyword keyword text ≡ Some rest
unfolding after_keyword
after_keyword-found keyword text rest begins =
    let many = length-same_word begins.front keyword begins.same in
    let front = ap (take (length keyword)) begins.text_is ∙ take_at begins.front rest (length keyword) many in
    let back = ap (drop (length keyword)) begins.text_is ∙ drop_at begins.front rest (length keyword) many in
    cond-true (is_word (take (length keyword) text) keyword) _ _
    (ap (λ l. is_word l keyword) front ∙ is_word-same begins.front keyword begins.same)
    ∙ ap Some back

pub begins-after_keyword : (keyword text rest : List ℕ) → after_keyword keyword text ≡ Some rest
    → BeginsWithKeyword text keyword rest
unfolding after_keyword
begins-after_keyword keyword text rest found =
    elim (cases_Bool (is_word (take (length keyword) text) keyword)) [
      | inl here ↦
          let after : drop (length keyword) text ≡ rest =
          cc
          (cond-true (is_word (take (length keyword) text) keyword) (Some (drop (length keyword) text)) None here) in
          record {
            front = take (length keyword) text;
            same = same_word (take (length keyword) text) keyword here;
            text_is =
                sym (take-append-drop (length keyword) text)
                ∙ ap (λ l. take (length keyword) text ++ l) after;
          }
      | inr not_here ↦
          absurd
          (let none = cond-false (is_word (take (length keyword) text) keyword) (Some (drop (length keyword) text)) None not_here in cc)
    ]

-- what passes one test passes a weaker one
pub AllPass-weaker : (p q : ℕ → Bool) (xs : List ℕ)
    → ((octet : ℕ) → p octet ≡ true → q octet ≡ true) → AllPass p xs → AllPass q xs
AllPass-weaker p q xs weaker all k d h = weaker (get_or xs k d) (all k d h)

-- a text between brackets, by its first and its last octet
literal-parts : (text : List ℕ) → 1 < length text → get_or text 0 0 ≡ 91
    → get_or text (length text - 1) 0 ≡ 93
    → text ≡ codes "[" ++ slice_range text 1 (length text - 1) ++ codes "]"
literal-parts [] long opens ends = absurd (omega (arith, long))
literal-parts (octet ∷ rest) long opens ends =
    let few : length (octet ∷ rest) - 1 - 1 ≡ length rest - 1 = omega arith in
    let last : length (octet ∷ rest) - 1 ≡ suc (length rest - 1) = omega arith in
    let closes : get_or rest (length rest - 1) 0 ≡ 93 =
    ap (λ i. get_or (octet ∷ rest) i 0) (sym last) ∙ ends in
    let whole =
    sym (take_all (length rest - 1 + 1) rest (omega arith))
    ∙ take_more rest (length rest - 1) 0 (omega arith) in
    ap (λ o. o ∷ rest) opens
    ∙ ap (λ l. 91 ∷ l)
    (whole ∙ ap (λ o. take (length rest - 1) rest ++ (o ∷ [])) closes ∙ ap (λ m. take m rest ++ (93 ∷ [])) (sym few))

pub literal-from_test : (text : List ℕ) → is_address_literal text ≡ true → IsAddressLiteral text
unfolding is_address_literal are_literal_octets
literal-from_test text test =
    let inner = slice_range text 1 (length text - 1) in
    let all = and_parts _ (list_all is_literal_octet inner) test in
    let ends = and_parts _ (slice_index text (length text - 1) == 93) all.0 in
    let front = and_parts (nat_lt 1 (length text)) (slice_index text 0 == 91) ends.0 in
    record {
      inner = inner;
      text_is =
          literal-parts text (ltb-true 1 (length text) front.0)
          (eqb-true (slice_index text 0) 91 front.1)
          (eqb-true (slice_index text (length text - 1)) 93 ends.1);
      octets = AllPass-from_list_all is_literal_octet inner all.1;
    }

literal-test_between : (inner : List ℕ) → AllPass is_literal_octet inner
    → is_address_literal (91 ∷ (inner ++ (93 ∷ []))) ≡ true
unfolding is_address_literal are_literal_octets
literal-test_between inner all =
    let text = 91 ∷ (inner ++ (93 ∷ [])) in
    let many = length-append inner (93 ∷ []) in
    let long : 1 < length text = omega (arith, many) in
    let last : length text - 1 ≡ suc (length inner) = omega (arith, many) in
    let few : length text - 1 - 1 ≡ length inner = omega (arith, many) in
    let closes = ap (λ i. get_or text i 0) last ∙ get_or_at inner 93 [] 0 (length inner) refl in
    let between = ap (λ n. take n (inner ++ (93 ∷ []))) few ∙ take_at inner (93 ∷ []) (length inner) refl in
    and_from _ (list_all is_literal_octet (slice_range text 1 (length text - 1)))
    (and_from _ (slice_index text (length text - 1) == 93) (and_from (nat_lt 1 (length text)) true (lt-ltb 1 (length text) long) refl) (eq-eqb (slice_index text (length text - 1)) 93 closes))
    (ap (list_all is_literal_octet) between ∙ list_all-from_AllPass is_literal_octet inner all)

pub literal-test : (text : List ℕ) → IsAddressLiteral text → is_address_literal text ≡ true
literal-test text literal =
    ap is_address_literal literal.text_is ∙ literal-test_between literal.inner literal.octets

-- the test of a host word says what one is
pub host-from_test : (text : List ℕ) → is_host_word text ≡ true → IsHostWord text
unfolding is_host_word are_domain_octets
host-from_test text test =
    let both =
    and_parts (is_in_range 1 255 (length text))
    (list_all is_domain_octet text || is_address_literal text) test in
    let range = and_parts (nat_le 1 (length text)) (nat_le (length text) 255) both.0 in
    record {
      not_empty = leb-true 1 (length text) range.0;
      within = leb-true (length text) 255 range.1;
      form = elim (or_cases (list_all is_domain_octet text) (is_address_literal text) both.1) [
        | inl domain ↦ inl (AllPass-from_list_all is_domain_octet text domain)
        | inr literal ↦ inr (literal-from_test text literal)
      ];
    }

pub host-test : (text : List ℕ) → IsHostWord text → is_host_word text ≡ true
unfolding is_host_word are_domain_octets
host-test text host =
    and_from (is_in_range 1 255 (length text)) (list_all is_domain_octet text || is_address_literal text)
    (and_from (nat_le 1 (length text)) (nat_le (length text) 255) (le-leb 1 (length text) host.not_empty) (le-leb (length text) 255 host.within))
    (elim host.form [
      | inl domain ↦
          or_left (list_all is_domain_octet text) (is_address_literal text)
          (list_all-from_AllPass is_domain_octet text domain)
      | inr literal ↦
          or_right (list_all is_domain_octet text) (is_address_literal text)
          (literal-test text literal)
    ])

pub address_literal_is_tested : AddressLiteralIsTested
address_literal_is_tested text = (literal-from_test text, literal-test text)

pub host_word_is_tested : HostWordIsTested
host_word_is_tested text = (host-from_test text, host-test text)

-- the octets of a host word are printable, and none is a blank
domain-graphic : (octet : ℕ) → is_domain_octet octet ≡ true → is_ascii_graphic octet ≡ true
domain-graphic octet test = grind (arith, nat_tests)

literal-graphic : (octet : ℕ) → is_literal_octet octet ≡ true → is_ascii_graphic octet ≡ true
literal-graphic octet test = grind (arith, nat_tests)

pub graphic-printable : (octet : ℕ) → is_ascii_graphic octet ≡ true → is_printable octet ≡ true
graphic-printable octet test = grind (arith, nat_tests)

pub graphic-no_space : (octet : ℕ) → is_ascii_graphic octet ≡ true → is_no_space octet ≡ true
graphic-no_space octet test = grind (arith, nat_tests)

pub graphic-no_blank : (octet : ℕ) → is_ascii_graphic octet ≡ true → is_blank octet ≡ false
graphic-no_blank octet test = grind (arith, nat_tests)

between-graphic : (inner : List ℕ) → AllPass is_literal_octet inner
    → list_all is_ascii_graphic (91 ∷ (inner ++ (93 ∷ []))) ≡ true
between-graphic inner all =
    list_all-append is_ascii_graphic inner (93 ∷ [])
    ∙ and_from (list_all is_ascii_graphic inner) true
    (list_all-from_AllPass is_ascii_graphic inner (AllPass-weaker is_literal_octet is_ascii_graphic inner literal-graphic all))
    refl

pub host-graphic : (text : List ℕ) → IsHostWord text → AllPass is_ascii_graphic text
host-graphic text host =
    elim host.form [
      | inl domain ↦ AllPass-weaker is_domain_octet is_ascii_graphic text domain-graphic domain
      | inr literal ↦
          AllPass-from_list_all is_ascii_graphic text
          (ap (list_all is_ascii_graphic) literal.text_is ∙ between-graphic literal.inner literal.octets)
    ]

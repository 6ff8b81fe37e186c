-- The end of the header section, found by a search for an empty line after a line.
use Rattle.std.proofs.Common.{◌≡◌, ◌≢◌, ℕ, eqb, true, false, ◌&&◌, ◌==◌, ◌+◌, ◌≤◌, List, [], ◌∷◌, ◌++◌, length, take, drop, refl, sym, ap, ◌∙◌, subst, arith, append_assoc, length-append}
use Rattle.std.proofs.lemmas.List.{drop_at, length-take, take-append-drop}
use Rattle.std.proofs.lemmas.Bool.{and_parts, eqb-true, false≢true}
use Rattle.std.specs.List.{AllByRecursion, starts_with}
use Rattle.memchr.specs.Find.{OccursAt, Nowhere, NoneBefore}
use Rattle.memchr.proofs.lemmas.MatchLemmas.{OccursAt-split, OccursAt-from_part}
use Rattle.relay_octets.specs.Line.{crlf, AreLines, lines_text}
use Rattle.relay_trace.specs.HeaderSection.{lines_of, header_end_of, IsFilledLine}
use Rattle.relay_trace.proofs.HeaderLemmas.{lines_length, lines_length-line, header_end_of-parts}
use Rattle.relay_trace.proofs.LawLemmas.{header_goes_on, header_ends_at_empty_line}
use Rattle.relay_trace.proofs.LinesLemmas.{joined, has_lines, split_lines}

-- the end of a line, and an empty line
abbrev pub blank : List ℕ
blank = 13 ∷ 10 ∷ 13 ∷ 10 ∷ []

-- a line stands before each empty line
record NoBlank (text : List ℕ) : Type 0 where
  at_start : (after : List ℕ) → text ≢ crlf ++ after
  later : (before after : List ℕ) → text ≢ before ++ (blank ++ after)

-- lines without an empty one
all_filled : (lines : List (List ℕ)) → AreLines lines → NoBlank (lines_text lines)
    → AllByRecursion IsFilledLine lines
all_filled [] each none = tt
all_filled ([] ∷ lines) each none = absurd (none.at_start (lines_text lines) refl)
all_filled ((octet ∷ line) ∷ lines) each none =
    let first = octet ∷ line in
    let afterwards : (rest : List ℕ) → lines_text lines ≡ rest → lines_text (first ∷ lines) ≡ first ++ (crlf ++ rest) =
    λ rest e. append_assoc first crlf (lines_text lines) ∙ ap (λ l. first ++ (crlf ++ l)) e in (
      record { no_crlf = each.0; not_empty = λ e. cc },
      all_filled lines each.1 (record {
        at_start = λ after e. none.later first after (afterwards (crlf ++ after) e);
        later =
            λ before after e. none.later (first ++ (crlf ++ before)) after (afterwards (before ++ (blank ++ after)) e ∙ simp append_assoc);
      }),
    )

-- where no empty line stands after a line, the header section is as long as the text
joined_length : (line : List ℕ) (lines : List (List ℕ)) → AreLines (line ∷ lines)
    → NoBlank (joined line lines) → length (joined line lines) ≤ lines_length (line ∷ lines)
unfolding joined
joined_length [] [] each none = omega arith
joined_length (octet ∷ line) [] each none =
    let whole = lines_length-line (octet ∷ line) [] (omega arith) in
    omega arith
joined_length [] (next ∷ lines) each none = absurd (none.at_start (joined next lines) refl)
joined_length (octet ∷ line) (next ∷ lines) each none =
    let first = octet ∷ line in
    let afterwards : (rest : List ℕ) → joined next lines ≡ rest → joined first (next ∷ lines) ≡ first ++ (crlf ++ rest) =
    λ rest e. ap (λ l. first ++ (crlf ++ l)) e in
    let later = joined_length next lines each.1 (record {
      at_start = λ after e. none.later first after (afterwards (crlf ++ after) e);
      later =
          λ before after e. none.later (first ++ (crlf ++ before)) after (afterwards (before ++ (blank ++ after)) e ∙ simp append_assoc);
    }) in
    let whole = lines_length-line first (next ∷ lines) (omega arith) in
    let size = length-append first (crlf ++ joined next lines) in
    omega arith

-- an empty line after some octets stands at their number
occurs_after : (text before after : List ℕ) → text ≡ before ++ (blank ++ after)
    → OccursAt text blank (length before) × (length text ≡ length before + 4 + length after)
occurs_after text before after e =
    let here : drop (length before) text ≡ blank ++ after =
    ap (drop (length before)) e ∙ drop_at before (blank ++ after) (length before) refl in
    let fits : length text ≡ length before + 4 + length after =
    ap length e ∙ length-append before (blank ++ after) ∙ omega arith in
    (OccursAt-from_part text blank (length before) (omega arith) (ap (take 4) here), fits)

-- the search finds none
pub no_end_found : (text : List ℕ) → ((after : List ℕ) → text ≢ crlf ++ after)
    → Nowhere (OccursAt text blank) 0 (length text + 1) → length text ≡ header_end_of text
no_end_found text start nowhere =
    let none : NoBlank text = record {
      at_start = start;
      later =
          λ before after e. let found = occurs_after text before after e in nowhere (length before) (omega arith) (omega (arith, found.1)) found.0;
    } in
    let split = split_lines text (lines_of text) (has_lines text) in
    let long = joined_length split.0 split.1 split.2 (subst NoBlank split.3 none) in
    let size = ap length split.3 in
    let same = ap lines_length split.4 in
    let parts = header_end_of-parts text in
    omega (arith, long)

-- the search finds the first
pub end_found : (text : List ℕ) (place : ℕ) → ((after : List ℕ) → text ≢ crlf ++ after)
    → NoneBefore (OccursAt text blank) 0 (length text + 1) place → OccursAt text blank place
    → place + 2 ≡ header_end_of text
end_found text place start first here =
    let front = take place text in
    let rest = drop (place + 4) text in
    let afterwards : drop place text ≡ blank ++ rest = OccursAt-split text blank place here in
    let whole : text ≡ (front ++ crlf) ++ (crlf ++ rest) =
    sym (take-append-drop place text) ∙ ap (λ l. front ++ l) afterwards
    ∙ sym (append_assoc front crlf (crlf ++ rest)) in
    let size =
    ap length whole ∙ length-append (front ++ crlf) (crlf ++ rest)
    ∙ ap (λ n. n + length (crlf ++ rest)) (length-append front crlf) in
    let short = length-take place text in
    let has = has_lines front in
    let lines = lines_of front in
    let none : NoBlank (front ++ crlf) = record {
      at_start = λ after e. start (after ++ (crlf ++ rest)) (whole ∙ ap (λ l. l ++ (crlf ++ rest)) e);
      later = λ before after e.
          let found =
          occurs_after text before (after ++ (crlf ++ rest))
          (whole ∙ ap (λ l. l ++ (crlf ++ rest)) e ∙ simp append_assoc) in
          let inner = ap length e ∙ length-append before (blank ++ after) in
          let outer = length-append front crlf in
          first.before (length before) (omega arith) (omega arith) found.0;
    } in
    let filled = all_filled lines has.each (subst NoBlank has.text_is none) in
    let goes = header_goes_on lines (crlf ++ rest) filled in
    let ends = header_ends_at_empty_line rest in
    let text_is : text ≡ lines_text lines ++ (crlf ++ rest) =
    whole ∙ ap (λ l. l ++ (crlf ++ rest)) has.text_is in
    let long : length (lines_text lines) ≡ length front + 2 =
    sym (ap length has.text_is) ∙ length-append front crlf in
    let bound : place ≤ length text = omega (arith, here.fits) in
    sym (ap header_end_of text_is ∙ goes.1 ∙ omega (arith, ends.1))

-- a text that begins with CR LF, by the test of the code
pub begins_empty : (text : List ℕ) → starts_with eqb text crlf ≡ true → 0 ≡ header_end_of text
begins_empty [] test = absurd (false≢true test)
begins_empty (octet ∷ []) test =
    let parts = and_parts (13 == octet) false test in
    absurd (false≢true parts.1)
begins_empty (octet ∷ next ∷ rest) test =
    let parts = and_parts (13 == octet) (10 == next && true) test in
    let other = and_parts (10 == next) true parts.1 in
    let text_is : octet ∷ next ∷ rest ≡ crlf ++ rest =
    ap (λ o. o ∷ next ∷ rest) (sym (eqb-true 13 octet parts.0))
    ∙ ap (λ o. 13 ∷ o ∷ rest) (sym (eqb-true 10 next other.0)) in
    sym (ap header_end_of text_is ∙ (header_ends_at_empty_line rest).1)

-- and one that doesn't
pub begins_filled : (text : List ℕ) → starts_with eqb text crlf ≡ false → (after : List ℕ)
    → text ≢ crlf ++ after
begins_filled text test after e = false≢true (sym test ∙ ap (λ t. starts_with eqb t crlf) e)

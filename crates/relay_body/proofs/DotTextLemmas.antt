-- Dot texts: a text has one content and begins no other, and what is written is read.
use Rattle.std.proofs.Common.{◌≡◌, ◌≢◌, ℕ, ◌+◌, ◌≤◌, true, false, ◌&&◌, ◌==◌, if◌then◌else◌, ◌⊎◌, List, [], ◌∷◌, ◌++◌, length, map, drop, inl, inr, refl, sym, ap, subst, ◌∙◌, arith, append_assoc, length-append, eq-eqb}
use Rattle.std.proofs.lemmas.List.{append-nil}
use Rattle.std.proofs.lemmas.Bool.{cases_Bool, and_parts, eqb-true, false≢true}
use Rattle.relay_octets.specs.Line.{crlf, HasNoCrlf, ReadsLine, lines_text, AreLines}
use Rattle.relay_octets.proofs.Theorems.{no_crlf_joined, no_crlf_nil, no_crlf_one, no_crlf_back, first_line_is_one}
use Rattle.relay_body.specs.DotText.{end_of_data, ends_in_line_end, IsTextLine, AreTextLines, without_period, with_period, content_of, HasNoDotText}
use Rattle.relay_body.specs.DotReading.{IsPart}
use Rattle.relay_body.specs.DotLaws.{OneContent, NoTextBeginsAnother, WrittenIsRead, OneText, EachContentIsWritten, ContentEndsInLineEnd, NoTextIsEmpty, LineEndIsSeen, SeenIsLineEnd, ReadingHasNoDotText, ReadingIsOpen}
use Rattle.relay_body.specs.declared.dot_reader.Phase.{Phase}
use Rattle.relay_body.specs.declared.dot_reader.Phase.TheVariants.{LineStart, Period, PeriodCr, Within, WithinCr, Done, Failed}

-- lines and what follows begin with the first line
first_of_lines : (line : List ℕ) (lines : List (List ℕ)) (rest : List ℕ) → HasNoCrlf line
    → ReadsLine (lines_text (line ∷ lines) ++ rest) line (lines_text lines ++ rest)
first_of_lines line lines rest none = record {
  text = append_assoc (line ++ crlf) (lines_text lines) rest;
  first = none;
}

-- the same of octets that are those lines and what follows
first_along : (octets line : List ℕ) (lines : List (List ℕ)) (rest : List ℕ) → HasNoCrlf line
    → octets ≡ lines_text (line ∷ lines) ++ rest → ReadsLine octets line (lines_text lines ++ rest)
first_along octets line lines rest none e = record {
  text = e ∙ append_assoc (line ++ crlf) (lines_text lines) rest;
  first = none;
}

-- the end of mail data begins with the line of a period
end_is_line : (octets rest : List ℕ) → octets ≡ end_of_data ++ rest
    → ReadsLine octets (46 ∷ []) rest
end_is_line octets rest e = record {
  text = e;
  first = no_crlf_one 46;
}

-- two readings of a text, each with something after it, have the same lines
pub texts_agree : (lines others : List (List ℕ)) (after rest : List ℕ) → AreTextLines lines
    → AreTextLines others
    → lines_text lines ++ (end_of_data ++ after) ≡ lines_text others ++ (end_of_data ++ rest)
    → (lines ≡ others) × (after ≡ rest)
texts_agree [] [] after rest h k e = (refl, ap (drop 3) e)
texts_agree [] (other ∷ others) after rest h k e =
    let stream = lines_text (other ∷ others) ++ (end_of_data ++ rest) in
    let same =
    first_line_is_one stream other (lines_text others ++ (end_of_data ++ rest)) (46 ∷ []) after
    (first_of_lines other others (end_of_data ++ rest) k.0.no_crlf)
    (end_is_line stream after (sym e)) in
    absurd (k.0.not_end same.0)
texts_agree (line ∷ lines) [] after rest h k e =
    let stream = lines_text (line ∷ lines) ++ (end_of_data ++ after) in
    let same =
    first_line_is_one stream line (lines_text lines ++ (end_of_data ++ after)) (46 ∷ []) rest
    (first_of_lines line lines (end_of_data ++ after) h.0.no_crlf) (end_is_line stream rest e) in
    absurd (h.0.not_end same.0)
texts_agree (line ∷ lines) (other ∷ others) after rest h k e =
    let stream = lines_text (line ∷ lines) ++ (end_of_data ++ after) in
    let same =
    first_line_is_one stream line (lines_text lines ++ (end_of_data ++ after)) other
    (lines_text others ++ (end_of_data ++ rest))
    (first_of_lines line lines (end_of_data ++ after) h.0.no_crlf)
    (first_along stream other others (end_of_data ++ rest) k.0.no_crlf e) in
    let later = texts_agree lines others after rest h.1 k.1 same.1 in
    (ap (λ l. l ∷ lines) same.0 ∙ ap (λ ls. other ∷ ls) later.0, later.1)

-- no text begins another, and what stands after it is the same
pub no_text_begins_another : NoTextBeginsAnother
no_text_begins_another text content other more after rest one two e =
    let texts =
    sym (append_assoc (lines_text one.lines) end_of_data after)
    ∙ ap (λ t. t ++ after) (sym one.text_is) ∙ e ∙ ap (λ t. t ++ rest) two.text_is
    ∙ append_assoc (lines_text two.lines) end_of_data rest in
    let same = texts_agree one.lines two.lines after rest one.each two.each texts in
    (one.text_is ∙ ap (λ ls. lines_text ls ++ end_of_data) same.0 ∙ sym two.text_is, same.1)

-- a text has one content
pub one_content : OneContent
one_content text content other one two =
    let same = texts_agree one.lines two.lines [] [] one.each two.each (sym one.text_is ∙ two.text_is) in
    one.content_is ∙ ap content_of same.0 ∙ sym two.content_is

-- no dot text is empty
pub no_text_is_empty : NoTextIsEmpty
no_text_is_empty text content reads e =
    let long = ap length (sym e ∙ reads.text_is) ∙ length-append (lines_text reads.lines) end_of_data in
    omega (arith, long)

-- lines and a part of one are no whole text, whatever follows a text
lines_hold_no_text : (lines others : List (List ℕ)) (part rest : List ℕ) → AreTextLines lines
    → AreTextLines others → HasNoCrlf part
    → lines_text lines ++ part ≡ lines_text others ++ (end_of_data ++ rest) → ⊥
lines_hold_no_text [] [] part rest h k none e = none.nowhere (46 ∷ []) rest e
lines_hold_no_text [] (other ∷ others) part rest h k none e =
    none.nowhere other (lines_text others ++ (end_of_data ++ rest))
    (e ∙ append_assoc (other ++ crlf) (lines_text others) (end_of_data ++ rest))
lines_hold_no_text (line ∷ lines) [] part rest h k none e =
    let stream = lines_text (line ∷ lines) ++ part in
    let same =
    first_line_is_one stream line (lines_text lines ++ part) (46 ∷ []) rest
    (first_of_lines line lines part h.0.no_crlf) (end_is_line stream rest e) in
    h.0.not_end same.0
lines_hold_no_text (line ∷ lines) (other ∷ others) part rest h k none e =
    let stream = lines_text (line ∷ lines) ++ part in
    let same =
    first_line_is_one stream line (lines_text lines ++ part) other
    (lines_text others ++ (end_of_data ++ rest)) (first_of_lines line lines part h.0.no_crlf)
    (first_along stream other others (end_of_data ++ rest) k.0.no_crlf e) in
    lines_hold_no_text lines others part rest h.1 k.1 none same.1

-- no beginning of lines and a part of one is a dot text
pub lines_have_no_dot_text : (lines : List (List ℕ)) (part : List ℕ) → AreTextLines lines
    → HasNoCrlf part → HasNoDotText (lines_text lines ++ part)
lines_have_no_dot_text lines part each none = record {
  nowhere = λ text content rest reads e.
      lines_hold_no_text lines reads.lines part rest each reads.each none
      (e ∙ ap (λ t. t ++ rest) reads.text_is ∙ append_assoc (lines_text reads.lines) end_of_data rest);
}

-- the period that was put before a line is taken off
with_period_off : (line : List ℕ) → without_period (with_period line) ≡ line
with_period_off [] = refl
with_period_off (octet ∷ octets) = elim (cases_Bool (octet == 46)) [
  | inl period ↦ ap (λ b. without_period (if b then 46 ∷ octet ∷ octets else octet ∷ octets)) period
  | inr other ↦
      ap (λ b. without_period (if b then 46 ∷ octet ∷ octets else octet ∷ octets)) other
      ∙ ap (λ b. if b then octets else octet ∷ octets) other
]

-- a period before a line makes no CR LF
no_crlf_after_period : (line : List ℕ) → HasNoCrlf line → HasNoCrlf (46 ∷ line)
no_crlf_after_period line none = no_crlf_joined (46 ∷ []) line (no_crlf_one 46) none refl

-- a line with its period is a line of mail text
with_period_is_text : (line : List ℕ) → HasNoCrlf line → IsTextLine (with_period line)
with_period_is_text [] none = record { no_crlf = none; not_end = λ e. cc }
with_period_is_text (octet ∷ octets) none = elim (cases_Bool (octet == 46)) [
  | inl period ↦
      rw period
      (record { no_crlf = no_crlf_after_period (octet ∷ octets) none; not_end = λ e. cc })
  | inr other ↦
      rw other
      (record { no_crlf = none; not_end = λ e. let same : octet ≡ 46 = cc in false≢true (sym other ∙ eq-eqb octet 46 same) })
]

-- the lines of a written text are lines of mail text
with_periods_are_text : (lines : List (List ℕ)) → AreLines lines
    → AreTextLines (map with_period lines)
with_periods_are_text [] h = tt
with_periods_are_text (line ∷ lines) h = (with_period_is_text line h.0, with_periods_are_text lines h.1)

-- and the receiver takes them as they were
content_of-with_periods : (lines : List (List ℕ))
    → content_of (map with_period lines) ≡ lines_text lines
content_of-with_periods [] = refl
content_of-with_periods (line ∷ lines) =
    ap (λ l. (l ++ crlf) ++ content_of (map with_period lines)) (with_period_off line)
    ∙ ap (λ t. (line ++ crlf) ++ t) (content_of-with_periods lines)

-- what is written is read
pub written_is_read : WrittenIsRead
written_is_read content text writes = record {
  lines = map with_period writes.lines;
  each = with_periods_are_text writes.lines writes.each;
  text_is = writes.text_is;
  content_is = writes.content_is ∙ sym (content_of-with_periods writes.lines);
}

-- no line is empty with its CR LF
line_is_some : (line rest : List ℕ) → [] ≢ (line ++ crlf) ++ rest
line_is_some line rest e =
    let long =
    ap length e ∙ length-append (line ++ crlf) rest
    ∙ ap (λ n. n + length rest) (length-append line crlf) in
    absurd (omega (arith, long))

-- octets are cut into lines in one way
lines_agree : (lines others : List (List ℕ)) → AreLines lines → AreLines others
    → lines_text lines ≡ lines_text others → lines ≡ others
lines_agree [] [] h k e = refl
lines_agree [] (other ∷ others) h k e = absurd (line_is_some other (lines_text others) e)
lines_agree (line ∷ lines) [] h k e = absurd (line_is_some line (lines_text lines) (sym e))
lines_agree (line ∷ lines) (other ∷ others) h k e =
    let stream = lines_text (line ∷ lines) in
    let same =
    first_line_is_one stream line (lines_text lines) other (lines_text others)
    (record { text = refl; first = h.0 }) (record { text = e; first = k.0 }) in
    ap (λ l. l ∷ lines) same.0 ∙ ap (λ ls. other ∷ ls) (lines_agree lines others h.1 k.1 same.1)

-- a content has one text
pub one_text : OneText
one_text content text other one two =
    let same = lines_agree one.lines two.lines one.each two.each (sym one.content_is ∙ two.content_is) in
    one.text_is ∙ ap (λ ls. lines_text (map with_period ls) ++ end_of_data) same ∙ sym two.text_is

-- an octet before two others doesn't change how they end
ends_in_line_end-more : (octet : ℕ) (octets : List ℕ) → 2 ≤ length octets
    → ends_in_line_end (octet ∷ octets) ≡ ends_in_line_end octets
ends_in_line_end-more octet [] two = absurd (omega arith)
ends_in_line_end-more octet (one ∷ []) two = absurd (omega arith)
ends_in_line_end-more octet (one ∷ next ∷ more) two = refl

-- what follows a line end is all that matters
ends_after_crlf : (rest : List ℕ) → ends_in_line_end (crlf ++ rest) ≡ ends_in_line_end rest
ends_after_crlf [] = refl
ends_after_crlf (one ∷ []) = refl
ends_after_crlf (one ∷ next ∷ more) = refl

-- what follows a line is all that matters
pub ends_after_line : (line rest : List ℕ)
    → ends_in_line_end ((line ++ crlf) ++ rest) ≡ ends_in_line_end rest
ends_after_line [] rest = ends_after_crlf rest
ends_after_line (octet ∷ line) rest =
    let long = length-append (line ++ crlf) rest ∙ ap (λ n. n + length rest) (length-append line crlf) in
    ends_in_line_end-more octet ((line ++ crlf) ++ rest) (omega (arith, long)) ∙ ends_after_line line rest

-- lines end in a line end
ends_in_line_end-lines : (lines : List (List ℕ)) → ends_in_line_end (lines_text lines) ≡ true
ends_in_line_end-lines [] = refl
ends_in_line_end-lines (line ∷ lines) =
    ends_after_line line (lines_text lines) ∙ ends_in_line_end-lines lines

-- what follows lines is all that matters
pub ends_after_lines : (lines : List (List ℕ)) (rest : List ℕ)
    → ends_in_line_end (lines_text lines ++ rest) ≡ ends_in_line_end rest
ends_after_lines [] rest = refl
ends_after_lines (line ∷ lines) rest =
    ap ends_in_line_end (append_assoc (line ++ crlf) (lines_text lines) rest)
    ∙ ends_after_line line (lines_text lines ++ rest) ∙ ends_after_lines lines rest

-- whatever is read is empty or ends in CR LF
pub content_ends_in_line_end : ContentEndsInLineEnd
content_ends_in_line_end text content reads =
    ap ends_in_line_end reads.content_is ∙ ends_in_line_end-lines (map without_period reads.lines)

-- octets without a CR LF that end in one are none
pub nothing_ends_so : (octets : List ℕ) → HasNoCrlf octets → ends_in_line_end octets ≡ true
    → octets ≡ []
nothing_ends_so [] none ends = refl
nothing_ends_so (one ∷ []) none ends = absurd (false≢true ends)
nothing_ends_so (one ∷ next ∷ []) none ends =
    let parts = and_parts (one == 13) (next == 10) ends in
    absurd
    (none.nowhere [] [] (ap (λ o. o ∷ next ∷ []) (eqb-true one 13 parts.0) ∙ ap (λ o. 13 ∷ o ∷ []) (eqb-true next 10 parts.1)))
nothing_ends_so (one ∷ next ∷ third ∷ more) none ends =
    let nothing =
    nothing_ends_so (next ∷ third ∷ more)
    (no_crlf_back (one ∷ []) (next ∷ third ∷ more) none) ends in
    absurd (cc)

-- any octets are lines, and then a part of one
pub record Splits (octets : List ℕ) : Type 0 where
  pub lines : List (List ℕ)
  pub part : List ℕ
  pub each : AreLines lines
  pub none : HasNoCrlf part
  pub octets_are : octets ≡ lines_text lines ++ part

-- an octet before octets that begin with no LF after a CR
no_crlf_more : (octet next : ℕ) (octets more : List ℕ) → octet == 13 && next == 10 ≡ false
    → HasNoCrlf octets → (rest : List ℕ) → next ∷ more ≡ octets ++ rest → HasNoCrlf (octet ∷ octets)
no_crlf_more octet next [] more apart none rest e = no_crlf_one octet
no_crlf_more octet next (first ∷ octets) more apart none rest e =
    let same : next ≡ first = cc in
    no_crlf_joined (octet ∷ []) (first ∷ octets) (no_crlf_one octet) none
    (ap (λ o. octet == 13 && o == 10) (sym same) ∙ apart)

-- the octet before octets that are cut already belongs to their first line, or to their part
split_more : (octet next : ℕ) (more : List ℕ) → octet == 13 && next == 10 ≡ false
    → (lines : List (List ℕ)) (part : List ℕ) → AreLines lines → HasNoCrlf part
    → next ∷ more ≡ lines_text lines ++ part → Splits (octet ∷ next ∷ more)
split_more octet next more apart [] part each none e = record {
  lines = [];
  part = octet ∷ part;
  each = tt;
  none = no_crlf_more octet next part more apart none [] (e ∙ sym (append-nil part));
  octets_are = ap (λ l. octet ∷ l) e;
}
split_more octet next more apart (line ∷ lines) part each none e = record {
  lines = (octet ∷ line) ∷ lines;
  part = part;
  each =
      (no_crlf_more octet next line more apart each.0 (crlf ++ (lines_text lines ++ part)) (e ∙ append_assoc (line ++ crlf) (lines_text lines) part ∙ append_assoc line crlf (lines_text lines ++ part)), each.1);
  none = none;
  octets_are = ap (λ l. octet ∷ l) e;
}

pub splits : (octets : List ℕ) → Splits octets
splits [] = record { lines = []; part = []; each = tt; none = no_crlf_nil; octets_are = refl }
splits (octet ∷ []) =
    record { lines = []; part = octet ∷ []; each = tt; none = no_crlf_one octet; octets_are = refl }
splits (octet ∷ next ∷ more) = elim (cases_Bool (octet == 13 && next == 10)) [
  | inl here ↦
      let parts = and_parts (octet == 13) (next == 10) here in
      let later = splits more in
      record {
        lines = [] ∷ later.lines;
        part = later.part;
        each = (no_crlf_nil, later.each);
        none = later.none;
        octets_are =
            ap (λ o. o ∷ next ∷ more) (eqb-true octet 13 parts.0)
            ∙ ap (λ o. 13 ∷ o ∷ more) (eqb-true next 10 parts.1)
            ∙ ap (λ l. 13 ∷ 10 ∷ l) later.octets_are;
      }
  | inr apart ↦
      let later = splits (next ∷ more) in
      split_more octet next more apart later.lines later.part later.each later.none later.octets_are
]

-- what is empty or ends in CR LF can be written
pub each_content_is_written : EachContentIsWritten
each_content_is_written content ends =
    let cut = splits content in
    let nothing =
    nothing_ends_so cut.part cut.none
    (sym (ends_after_lines cut.lines cut.part) ∙ ap ends_in_line_end (sym cut.octets_are) ∙ ends) in (
      lines_text (map with_period cut.lines) ++ end_of_data,
      record {
        lines = cut.lines;
        each = cut.each;
        content_is =
            cut.octets_are ∙ ap (λ l. lines_text cut.lines ++ l) nothing
            ∙ append-nil (lines_text cut.lines);
        text_is = refl;
      },
    )

-- no CR LF stands in what a reader has used of a line
part_has_no_crlf : (phase : Phase) (part content : List ℕ) → IsPart phase part content
    → HasNoCrlf part
part_has_no_crlf LineStart part content h = rw h.0 no_crlf_nil
part_has_no_crlf Period part content h = rw h.0 (no_crlf_one 46)
part_has_no_crlf PeriodCr part content h =
    rw h.0 (no_crlf_joined (46 ∷ []) (13 ∷ []) (no_crlf_one 46) (no_crlf_one 13) refl)
part_has_no_crlf Within part content h = h.0.no_crlf
part_has_no_crlf WithinCr part content h = h.0.no_crlf
part_has_no_crlf Done part content h = absurd h
part_has_no_crlf Failed part content h = absurd h

-- a reader that reads on has used no whole dot text
pub reading_has_no_dot_text : ReadingHasNoDotText
reading_has_no_dot_text reader limit octets reading =
    rw reading.octets_are
    (lines_have_no_dot_text reading.lines reading.part reading.each (part_has_no_crlf reader.phase reading.part reading.content reading.part_is))

-- and it is neither done nor failed
pub reading_is_open : ReadingIsOpen
reading_is_open reader limit octets reading = (
  λ done. subst (λ (phase : Phase). IsPart phase reading.part reading.content) done reading.part_is,
  λ failed. subst (λ (phase : Phase). IsPart phase reading.part reading.content) failed reading.part_is,
)

-- the test of line ends is true of no octets and of octets with CR LF after them
pub line_end_is_seen : LineEndIsSeen
line_end_is_seen content front (inl none) = ap ends_in_line_end none
line_end_is_seen content front (inr ends) =
    ap ends_in_line_end (ends ∙ sym (append-nil (front ++ crlf))) ∙ ends_after_line front []

-- lines are none, or end in the CR LF of the last
lines_end : (content : List ℕ) (lines : List (List ℕ)) → content ≡ lines_text lines
    → (content ≡ []) ⊎ ((front : List ℕ) × (content ≡ front ++ crlf))
lines_end content [] e = inl e
lines_end content (line ∷ []) e = inr (line, e ∙ append-nil (line ++ crlf))
lines_end content (line ∷ next ∷ lines) e = elim (lines_end (lines_text (next ∷ lines)) (next ∷ lines) refl) [
  | inl none ↦ absurd (line_is_some next (lines_text lines) (sym none))
  | inr later ↦
      inr
      ((line ++ crlf) ++ later.0, e ∙ ap (λ l. (line ++ crlf) ++ l) later.1 ∙ sym (append_assoc (line ++ crlf) later.0 crlf))
]

-- and it is true of nothing else
pub seen_is_line_end : SeenIsLineEnd
seen_is_line_end content seen =
    let cut = splits content in
    let nothing =
    nothing_ends_so cut.part cut.none
    (sym (ends_after_lines cut.lines cut.part) ∙ ap ends_in_line_end (sym cut.octets_are) ∙ seen) in
    lines_end content cut.lines
    (cut.octets_are ∙ ap (λ l. lines_text cut.lines ++ l) nothing ∙ append-nil (lines_text cut.lines))

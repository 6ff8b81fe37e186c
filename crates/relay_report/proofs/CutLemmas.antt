-- Cutting at a mark.
use Rattle.std.proofs.Common.{◌≡◌, ◌⊎◌, inl, inr, ℕ, ◌+◌, ◌-◌, ◌<◌, ◌≤◌, List, ◌∷◌, ◌++◌, length, take, drop, get_or, Some, None, refl, sym, ap, ◌∙◌, arith, append_assoc, length-append}
use Rattle.std.proofs.lemmas.Bool.{cases_lt}
use Rattle.std.proofs.lemmas.List.{take_at, drop_at, drop-drop, length-take, length-drop, take-append-drop, take-append-le, drop-append-le, get_or-append-add, append_cancel_left}
use Rattle.memchr.specs.Find.{OccursAt, FindsNeedle}
use Rattle.memchr.proofs.lemmas.MatchLemmas.{OccursAt-split, OccursAt-from_part}
use Rattle.relay_report.specs.Boundary.{StandsIn, StandsNowhere}
use Rattle.relay_report.specs.Parts.{CutsAt, BeginsOnce, CutIsOne, NowhereAfterLine, PartsComeBack, HasNoThree}
use Rattle.relay_report.proofs.CollectLemmas.{occurs_after, before_end, stands_later}

-- a mark that stands at a place of a piece followed by the mark stands in the piece, or ends after it
within : (mark text piece afterwards : List ℕ) (place : ℕ) → text ≡ piece ++ afterwards → OccursAt text mark place → place + length mark ≤ length piece → StandsIn mark piece
within mark text piece afterwards place e at fits = record {
  before = take place piece;
  after = drop (place + length mark) piece;
  text_is =
      let here : take (length mark) (drop place piece) ≡ mark =
      sym (take-append-le (length mark) (drop place piece) afterwards (omega (arith, fits, length-drop place piece))) ∙ ap (take (length mark)) (sym (drop-append-le place piece afterwards (omega (arith, fits))) ∙ ap (drop place) (sym e)) ∙ ap (take (length mark)) (OccursAt-split text mark place at) ∙ take_at mark _ (length mark) refl in
      let piece_at : OccursAt piece mark place = OccursAt-from_part piece mark place fits here in
      sym (take-append-drop place piece) ∙ ap (λ l. take place piece ++ l) (OccursAt-split piece mark place piece_at);
}

not_earlier : (mark text piece rest : List ℕ) (place : ℕ) → BeginsOnce mark → CutsAt mark text piece rest → OccursAt text mark place → place < length piece → ⊥
not_earlier mark text piece rest place begins cut at early = split (cases_lt (length piece) (place + length mark))
  where
    split : (length piece < place + length mark) ⊎ (place + length mark ≤ length piece) → ⊥
    split (inr fits) = let stands = within mark text piece (mark ++ rest) place cut.text_is at fits in cut.first.nowhere stands.before stands.after stands.text_is
    split (inl over) =
        let own = occurs_after text mark piece rest cut.text_is in
        let gap : place + (length piece - place) ≡ length piece + 0 = omega (arith, early) in
        begins.once (length piece - place) (omega (arith, early)) (omega (arith, over, early))
        (sym (at.reads (length piece - place) (omega (arith, over, early))) ∙ ap (λ n. get_or text n 0) gap ∙ own.reads 0 begins.some)

pub cut_is_one : CutIsOne
cut_is_one mark text piece rest other more begins one two = split (cases_lt (length piece) (length other)) (cases_lt (length other) (length piece))
  where
    split : (length piece < length other) ⊎ (length other ≤ length piece) → (length other < length piece) ⊎ (length piece ≤ length other) → (piece ≡ other) × (rest ≡ more)
    split (inl less) _ = absurd (not_earlier mark text other more (length piece) begins two (occurs_after text mark piece rest one.text_is) less)
    split (inr _) (inl less) = absurd (not_earlier mark text piece rest (length other) begins one (occurs_after text mark other more two.text_is) less)
    split (inr a) (inr b) =
        let same : length piece ≡ length other = omega (arith, a, b) in
        let both : piece ++ (mark ++ rest) ≡ other ++ (mark ++ more) = sym one.text_is ∙ two.text_is in
        let pieces : piece ≡ other = sym (take_at piece (mark ++ rest) (length other) same) ∙ ap (take (length other)) both ∙ take_at other (mark ++ more) (length other) refl in
        let rests : mark ++ rest ≡ mark ++ more = sym (drop_at piece (mark ++ rest) (length other) same) ∙ ap (drop (length other)) both ∙ drop_at other (mark ++ more) (length other) refl in
        (pieces, append_cancel_left mark rest more rests)

-- what a search for the mark answers
pub found_cut : (mark text : List ℕ) (place : ℕ) → 0 < length mark → FindsNeedle text mark 0 (Some place) → CutsAt mark text (take place text) (drop (place + length mark) text)
found_cut mark text place some found = record {
  text_is = sym (ap (λ l. take place text ++ l) (sym (OccursAt-split text mark place found.1)) ∙ take-append-drop place text);
  first = record {
    nowhere = λ before after e.
        let whole : text ≡ before ++ (mark ++ (after ++ drop place text)) =
        sym (take-append-drop place text) ∙ ap (λ l. l ++ drop place text) e ∙ append_assoc before (mark ++ after) (drop place text) ∙ ap (λ l. before ++ l) (append_assoc mark after (drop place text)) in
        let fits : length (take place text) ≡ length before + (length mark + length after) =
        ap length e ∙ length-append before (mark ++ after) ∙ ap (λ n. length before + n) (length-append mark after) in
        found.0.before (length before) (omega arith) (omega (arith, fits, length-take place text, some)) (occurs_after text mark before (after ++ drop place text) whole);
  };
}

pub no_cut : (mark text : List ℕ) → FindsNeedle text mark 0 None → StandsNowhere mark text
no_cut mark text none = record {
  nowhere = λ before after e. none (length before) (omega arith) (before_end text mark before after e) (occurs_after text mark before after e);
}

pub cut_by : (mark text piece rest : List ℕ) (place : ℕ) → 0 < length mark → FindsNeedle text mark 0 (Some place) → piece ≡ take place text → rest ≡ drop (place + length mark) text → CutsAt mark text piece rest
cut_by mark text piece rest place some found piece_is rest_is = rw (piece_is, rest_is) (found_cut mark text place some found)

-- after a line end, a word without a line end stands nowhere if it stands in neither half
pub nowhere_after_line : NowhereAfterLine
nowhere_after_line word front back plain in_front in_back = record { nowhere = λ before after e. case before after e (cases_lt (length front) (length before + length word)) (cases_lt (length front) (length before)) }
  where
    case : (before after : List ℕ) → front ++ (10 ∷ back) ≡ before ++ (word ++ after) → (length front < length before + length word) ⊎ (length before + length word ≤ length front) → (length front < length before) ⊎ (length before ≤ length front) → ⊥
    case before after e (inr fits) other =
        let stands = within word (front ++ (10 ∷ back)) front (10 ∷ back) (length before) refl (occurs_after (front ++ (10 ∷ back)) word before after e) fits in
        in_front.nowhere stands.before stands.after stands.text_is
    case before after e (inl over) (inl far) =
        let stands = stands_later word (front ++ (10 ∷ back)) before after (length front + 1) e (omega (arith, far)) in
        let afterwards : drop (length front + 1) (front ++ (10 ∷ back)) ≡ back = sym (drop-drop 1 (length front) (front ++ (10 ∷ back))) ∙ ap (drop 1) (drop_at front (10 ∷ back) (length front) refl) in
        in_back.nowhere stands.before stands.after (sym afterwards ∙ stands.text_is)
    case before after e (inl over) (inr near) =
        let at = occurs_after (front ++ (10 ∷ back)) word before after e in
        let gap : length before + (length front - length before) ≡ length front + 0 = omega (arith, near) in
        plain (length front - length before) (omega (arith, over, near)) (sym (at.reads (length front - length before) (omega (arith, over, near))) ∙ ap (λ n. get_or (front ++ (10 ∷ back)) n 0) gap ∙ get_or-append-add front (10 ∷ back) 0 0)

pub parts_come_back : PartsComeBack
parts_come_back mark text one two three tail first second third rest begins a b =
    let outer = cut_is_one mark text one _ first _ begins (record { text_is = a.text_is; first = a.one_plain }) (record { text_is = b.text_is; first = b.one_plain }) in
    let middle = cut_is_one mark (two ++ (mark ++ (three ++ (mark ++ tail)))) two _ second _ begins (record { text_is = refl; first = a.two_plain }) (record { text_is = outer.1; first = b.two_plain }) in
    let inner = cut_is_one mark (three ++ (mark ++ tail)) three tail third rest begins (record { text_is = refl; first = a.three_plain }) (record { text_is = middle.1; first = b.three_plain }) in
    (outer.0, middle.0, inner.0, inner.1)

pub no_second : (mark text one afterwards : List ℕ) → BeginsOnce mark → CutsAt mark text one afterwards → StandsNowhere mark afterwards → HasNoThree mark text
no_second mark text one afterwards begins cut none = record {
  none = λ a b d tail three.
      let outer = cut_is_one mark text one afterwards a _ begins cut (record { text_is = three.text_is; first = three.one_plain }) in
      none.nowhere b (d ++ (mark ++ tail)) outer.1;
}

pub no_third : (mark text one afterwards two more : List ℕ) → BeginsOnce mark → CutsAt mark text one afterwards → CutsAt mark afterwards two more → StandsNowhere mark more → HasNoThree mark text
no_third mark text one afterwards two more begins cut again none = record {
  none = λ a b d tail three.
      let outer = cut_is_one mark text one afterwards a _ begins cut (record { text_is = three.text_is; first = three.one_plain }) in
      let middle = cut_is_one mark afterwards two more b _ begins again (record { text_is = outer.1; first = three.two_plain }) in
      none.nowhere d tail middle.1;
}

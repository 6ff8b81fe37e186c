-- A reader takes a run of lines of which no other than the first begins with a period as it is.
use Rattle.std.proofs.Common.{◌≡◌, ℕ, ◌+◌, ◌-◌, ◌<◌, ◌≤◌, true, false, ◌==◌, List, [], ◌∷◌, ◌++◌, length, take, drop, get_or, inl, inr, refl, sym, ap, subst, ◌∙◌, arith, append_assoc, length-append}
use Rattle.std.proofs.SliceLists.{all_by_recursion_push}
use Rattle.std.proofs.lemmas.List.{append-nil, get_or-append-add, length-take-le, take-append-drop}
use Rattle.std.proofs.lemmas.Bool.{cases_Bool}
use Rattle.relay_octets.specs.Line.{crlf, HasNoCrlf, AreLines, lines_text}
use Rattle.relay_body.specs.DotText.{IsTextLine, AreTextLines, content_of, ends_in_line_end}
use Rattle.relay_body.specs.Gathering.{KeepsContent}
use Rattle.relay_body.specs.DotReading.{BeginsTextLine, IsPart, Uses}
use Rattle.relay_body.specs.DotSteps.{begins_with_period, HasNoPeriodLine, RunsOn, phase_after}
use Rattle.relay_body.specs.declared.gathered.Gathering.{Gathering}
use Rattle.relay_body.specs.declared.dot_reader.Phase.{Phase}
use Rattle.relay_body.specs.declared.dot_reader.Phase.TheVariants.{LineStart}
use Rattle.relay_body.specs.declared.dot_reader.DotReader.{DotReader}
use Rattle.relay_body.proofs.DotTextLemmas.{ends_after_lines, nothing_ends_so, splits}
use Rattle.relay_body.proofs.ReadingLemmas.{lines_text-more, content_of-more, is_part_by, runs_front, run_content, run_has_no_crlf, run_is_no_end, ends_in_cr-append, ends_in_cr-last}
use Rattle.relay_body.proofs.RunLemmas.{no_period_after, none_in_rest}

-- the octets are lines of mail text and a part of one, and this is their content
record Reads (phase : Phase) (octets content : List ℕ) : Type 0 where
  lines : List (List ℕ)
  part : List ℕ
  tail : List ℕ
  each : AreTextLines lines
  octets_are : octets ≡ lines_text lines ++ part
  part_is : IsPart phase part tail
  content_is : content ≡ content_of lines ++ tail

-- a line more
line_read : (phase : Phase) (octets content line : List ℕ) → Reads phase octets content
    → RunsOn phase (line ++ crlf) → HasNoCrlf line
    → Reads LineStart (octets ++ (line ++ crlf)) (content ++ (line ++ crlf))
line_read phase octets content line read runs none =
    let whole = read.part ++ line in
    let runs_line = runs_front phase line crlf runs in
    let text_line : IsTextLine whole = record {
      no_crlf = run_has_no_crlf phase read.part read.tail line runs_line read.part_is none;
      not_end = λ e.
          let long = length-append line crlf in
          run_is_no_end phase read.part read.tail (line ++ crlf) runs read.part_is (omega (arith, long)) []
          (ap (λ l. l ++ crlf) (sym e) ∙ append_assoc read.part line crlf ∙ sym (append-nil (read.part ++ (line ++ crlf))));
    } in
    record {
      lines = read.lines ++ whole ∷ [];
      part = [];
      tail = [];
      each = all_by_recursion_push IsTextLine read.lines whole read.each text_line;
      octets_are =
          ap (λ t. t ++ (line ++ crlf)) read.octets_are
          ∙ append_assoc (lines_text read.lines) read.part (line ++ crlf)
          ∙ ap (λ t. lines_text read.lines ++ t) (sym (append_assoc read.part line crlf))
          ∙ lines_text-more read.lines whole ∙ sym (append-nil (lines_text (read.lines ++ whole ∷ [])));
      part_is = (refl, refl);
      content_is =
          ap (λ t. t ++ (line ++ crlf)) read.content_is
          ∙ append_assoc (content_of read.lines) read.tail (line ++ crlf)
          ∙ ap (λ t. content_of read.lines ++ t)
          (sym (append_assoc read.tail line crlf) ∙ ap (λ c. c ++ crlf) (run_content phase read.part read.tail line runs_line read.part_is))
          ∙ content_of-more read.lines whole ∙ sym (append-nil (content_of (read.lines ++ whole ∷ [])));
    }

-- a part of a line more
part_read : (phase : Phase) (octets content run : List ℕ) → Reads phase octets content
    → RunsOn phase run → 0 < length run → HasNoCrlf run
    → Reads (phase_after (get_or run (length run - 1) 0)) (octets ++ run) (content ++ run)
part_read phase octets content run read runs some none =
    let begins : BeginsTextLine (read.part ++ run) = record {
      no_crlf = run_has_no_crlf phase read.part read.tail run runs read.part_is none;
      not_end = λ more e. run_is_no_end phase read.part read.tail run runs read.part_is some more e;
    } in
    let last = ends_in_cr-append read.part run some ∙ ends_in_cr-last run some in
    let same = run_content phase read.part read.tail run runs read.part_is in
    record {
      lines = read.lines;
      part = read.part ++ run;
      tail = read.tail ++ run;
      each = read.each;
      octets_are =
          ap (λ t. t ++ run) read.octets_are ∙ append_assoc (lines_text read.lines) read.part run;
      part_is =
          is_part_by (get_or run (length run - 1) 0 == 13) (read.part ++ run) (read.tail ++ run) begins
          last same;
      content_is =
          ap (λ t. t ++ run) read.content_is ∙ append_assoc (content_of read.lines) read.tail run;
    }

-- lines more, after which no line begins with a period
record ReadsTo (octets content lines_read after : List ℕ) : Type 0 where
  read : Reads LineStart (octets ++ lines_read) (content ++ lines_read)
  no_period : begins_with_period after ≡ false

lines_read : (phase : Phase) (line : List ℕ) (lines : List (List ℕ))
    (after octets content : List ℕ)
    → HasNoCrlf line → AreLines lines → HasNoPeriodLine (lines_text (line ∷ lines) ++ after)
    → RunsOn phase (lines_text (line ∷ lines) ++ after) → Reads phase octets content
    → ReadsTo octets content (lines_text (line ∷ lines)) after
lines_read phase line [] after octets content no_crlf each none runs read =
    let here = line ++ crlf in
    let alone : here ++ [] ≡ here = append-nil here in
    let none_here : HasNoPeriodLine (here ++ after) =
    subst (λ (l : List ℕ). HasNoPeriodLine (l ++ after)) alone none in
    let runs_here : RunsOn phase here =
    runs_front phase here after (subst (λ (l : List ℕ). RunsOn phase (l ++ after)) alone runs) in
    record {
      read =
          subst (λ (l : List ℕ). Reads LineStart (octets ++ l) (content ++ l)) (sym alone)
          (line_read phase octets content line read runs_here no_crlf);
      no_period = no_period_after line after none_here;
    }
lines_read phase line (next ∷ lines) after octets content no_crlf each none runs read =
    let here = line ++ crlf in
    let others = lines_text (next ∷ lines) in
    let regrouped : (here ++ others) ++ after ≡ here ++ (others ++ after) =
    append_assoc here others after in
    let none_here : HasNoPeriodLine (here ++ (others ++ after)) =
    subst (λ (l : List ℕ). HasNoPeriodLine l) regrouped none in
    let runs_here : RunsOn phase here =
    runs_front phase here (others ++ after) (subst (λ (l : List ℕ). RunsOn phase l) regrouped runs) in
    let rest =
    lines_read LineStart next lines after (octets ++ here) (content ++ here) each.0 each.1
    (none_in_rest here (others ++ after) none_here)
    (no_period_after line (others ++ after) none_here)
    (line_read phase octets content line read runs_here no_crlf) in
    record {
      read =
          subst (λ (l : List ℕ). Reads LineStart l (content ++ (here ++ others)))
          (append_assoc octets here others)
          (subst (λ (l : List ℕ). Reads LineStart ((octets ++ here) ++ others) l) (append_assoc content here others) rest.read);
      no_period = rest.no_period;
    }

-- the last octet of what isn't empty is the last of the whole
last_of_back : (front back : List ℕ) → 0 < length back
    → get_or (front ++ back) (length (front ++ back) - 1) 0 ≡ get_or back (length back - 1) 0
last_of_back front back some =
    let long = length-append front back in
    let place : length (front ++ back) - 1 ≡ length front + (length back - 1) = omega (arith, long, some) in
    ap (λ n. get_or (front ++ back) n 0) place ∙ get_or-append-add front back (length back - 1) 0

-- a run that ends in a line end
reads_lines : (phase : Phase) (octets content : List ℕ) (lines : List (List ℕ)) → AreLines lines
    → 0 < length (lines_text lines) → HasNoPeriodLine (lines_text lines)
    → RunsOn phase (lines_text lines) → Reads phase octets content
    → Reads LineStart (octets ++ lines_text lines) (content ++ lines_text lines)
reads_lines phase octets content [] each some none runs read = absurd (omega arith)
reads_lines phase octets content (line ∷ lines) each some none runs read =
    let run = lines_text (line ∷ lines) in
    let alone : run ≡ run ++ [] = sym (append-nil run) in
    (lines_read phase line lines [] octets content each.0 each.1 (subst (λ (l : List ℕ). HasNoPeriodLine l) alone none) (subst (λ (l : List ℕ). RunsOn phase l) alone runs) read).read

-- a run that ends within a line
reads_part : (phase : Phase) (octets content : List ℕ) (lines : List (List ℕ)) (part : List ℕ)
    → AreLines lines → HasNoCrlf part → 0 < length part
    → HasNoPeriodLine (lines_text lines ++ part) → RunsOn phase (lines_text lines ++ part)
    → Reads phase octets content
    → Reads (phase_after (get_or part (length part - 1) 0)) (octets ++ (lines_text lines ++ part))
    (content ++ (lines_text lines ++ part))
reads_part phase octets content [] part each no_crlf some none runs read =
    part_read phase octets content part read runs some no_crlf
reads_part phase octets content (line ∷ lines) part each no_crlf some none runs read =
    let run = lines_text (line ∷ lines) in
    let to = lines_read phase line lines part octets content each.0 each.1 none runs read in
    let last = part_read LineStart (octets ++ run) (content ++ run) part to.read to.no_period some no_crlf in
    let after = phase_after (get_or part (length part - 1) 0) in
    subst (λ (l : List ℕ). Reads after l (content ++ (run ++ part))) (append_assoc octets run part)
    (subst (λ (l : List ℕ). Reads after ((octets ++ run) ++ part) l) (append_assoc content run part) last)

-- octets without a CR LF don't end in one
part_is_open : (octet : ℕ) (more : List ℕ) → HasNoCrlf (octet ∷ more)
    → ends_in_line_end (octet ∷ more) ≡ false
part_is_open octet more no_crlf = elim (cases_Bool (ends_in_line_end (octet ∷ more))) [
  | inl ends ↦ absurd (cc (nothing_ends_so (octet ∷ more) no_crlf ends))
  | inr none ↦ none
]

-- the phase after a run, by whether it ends in a line end
pub record IsAfter (phase : Phase) (run : List ℕ) : Type 0 where
  pub at_line_end : ends_in_line_end run ≡ true → phase ≡ LineStart
  pub within : ends_in_line_end run ≡ false → phase ≡ phase_after (get_or run (length run - 1) 0)

-- a run
reads_run : (phase new : Phase) (octets content run : List ℕ) → 0 < length run
    → HasNoPeriodLine run → RunsOn phase run → IsAfter new run → Reads phase octets content
    → Reads new (octets ++ run) (content ++ run)
reads_run phase new octets content run some none runs after read =
    let cut = splits run in
    let ends : ends_in_line_end run ≡ ends_in_line_end cut.part =
    ap ends_in_line_end cut.octets_are ∙ ends_after_lines cut.lines cut.part in
    by_part cut.lines cut.part cut.each cut.none cut.octets_are ends where
      by_part : (lines : List (List ℕ)) (part : List ℕ) → AreLines lines → HasNoCrlf part
          → run ≡ lines_text lines ++ part → ends_in_line_end run ≡ ends_in_line_end part
          → Reads new (octets ++ run) (content ++ run)
      by_part lines [] each no_crlf is ends =
          let all : run ≡ lines_text lines = is ∙ append-nil (lines_text lines) in
          subst (λ (p : Phase). Reads p (octets ++ run) (content ++ run)) (sym (after.at_line_end ends))
          (subst (λ (l : List ℕ). Reads LineStart (octets ++ l) (content ++ l)) (sym all)
          (reads_lines phase octets content lines each (subst (λ (l : List ℕ). 0 < length l) all some) (subst (λ (l : List ℕ). HasNoPeriodLine l) all none) (subst (λ (l : List ℕ). RunsOn phase l) all runs) read))
      by_part lines (octet ∷ more) each no_crlf is ends =
          let part : List ℕ = octet ∷ more in
          let within : ends_in_line_end run ≡ false = ends ∙ part_is_open octet more no_crlf in
          let last : new ≡ phase_after (get_or part (length part - 1) 0) =
          after.within within
          ∙ ap phase_after (ap (λ l. get_or l (length l - 1) 0) is ∙ last_of_back (lines_text lines) part (omega arith)) in
          subst (λ (p : Phase). Reads p (octets ++ run) (content ++ run)) (sym last)
          (subst (λ (l : List ℕ). Reads (phase_after (get_or part (length part - 1) 0)) (octets ++ l) (content ++ l)) (sym is)
          (reads_part phase octets content lines part each no_crlf (omega arith) (subst (λ (l : List ℕ). HasNoPeriodLine l) is none) (subst (λ (l : List ℕ). RunsOn phase l) is runs) read))

-- a run that is kept is used
pub uses_run : (old : DotReader) (new : Phase) (gathering : Gathering) (rest : List ℕ) (used : ℕ)
    → (0 < used) × (used ≤ length rest) → HasNoPeriodLine (take used rest) → RunsOn old.phase rest
    → IsAfter new (take used rest)
    →
    ((limit : ℕ) (content : List ℕ) → KeepsContent old.gathering limit content → KeepsContent gathering limit (content ++ take used rest))
    → Uses old (record { phase = new; gathering = gathering }) (take used rest) false
uses_run old new gathering rest used within none runs after keeps = record {
  stands = λ limit before reading.
      let run = take used rest in
      let low = within.0 in
      let short = length-take-le used rest within.1 in
      let runs_here : RunsOn old.phase run =
      runs_front old.phase run (drop used rest)
      (subst (λ (l : List ℕ). RunsOn old.phase l) (sym (take-append-drop used rest)) runs) in
      let content = content_of reading.lines ++ reading.content in
      let so_far : Reads old.phase before content = record {
        lines = reading.lines;
        part = reading.part;
        tail = reading.content;
        each = reading.each;
        octets_are = reading.octets_are;
        part_is = reading.part_is;
        content_is = refl;
      } in
      let read =
      reads_run old.phase new before content run (omega (arith, low, short)) none runs_here after so_far in
      record {
        lines = read.lines;
        part = read.part;
        content = read.tail;
        each = read.each;
        octets_are = read.octets_are;
        part_is = read.part_is;
        keeps = subst (λ (c : List ℕ). KeepsContent gathering limit c) read.content_is (keeps limit content reading.keeps);
      };
}

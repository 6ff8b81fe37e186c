-- Runs of lines of which no other than the first begins with a period: what is sent for them is one copy.
use Rattle.std.proofs.Common.{◌≡◌, ℕ, ◌+◌, Bool, true, false, ◌==◌, if◌then◌else◌, List, [], ◌∷◌, ◌++◌, length, map, take, drop, Option, None, Some, MatchOption, inl, inr, refl, sym, subst, ap, ◌∙◌, arith, append_assoc, length-append}
use Rattle.std.proofs.lemmas.Bool.{cases_Bool, eqb-true}
use Rattle.std.proofs.lemmas.List.{append-nil, drop_at, length-take, map-append, take-append-drop, take_at}
use Rattle.std.proofs.lemmas.Grind.{flat_map-append}
use Rattle.memchr.specs.Find.{OccursAt, Nowhere, NoneBefore, FindsNeedle}
use Rattle.memchr.proofs.lemmas.MatchLemmas.{OccursAt-split, OccursAt-from_part}
use Rattle.relay_octets.specs.Line.{crlf, AreLines, line_text, lines_text}
use Rattle.relay_body.specs.DotText.{end_of_data, ends_in_line_end, with_period, AddsDotText}
use Rattle.relay_body.specs.DotSteps.{begins_with_period, period_line, period_for, HasNoPeriodLine, EndsRun, AddsSoFar}
use Rattle.relay_body.proofs.DotTextLemmas.{each_content_is_written, ends_after_line, line_end_is_seen}

-- A search

-- such a place, after some octets, stands at their number
stands_after : (octets before after : List ℕ) → octets ≡ before ++ period_line ++ after
    → (length octets ≡ length before + 3 + length after) × OccursAt octets period_line
    (length before)
stands_after octets before after e =
    let here : drop (length before) octets ≡ period_line ++ after =
    ap (drop (length before)) (e ∙ append_assoc before period_line after)
    ∙ drop_at before (period_line ++ after) (length before) refl in
    let long : length octets ≡ length before + 3 + length after =
    ap length e ∙ length-append (before ++ period_line) after
    ∙ ap (λ n. n + length after) (length-append before period_line) in
    (long, OccursAt-from_part octets period_line (length before) (omega arith) (ap (take 3) here))

-- where a search finds none, there is none
pub none_found : (octets : List ℕ) → Nowhere (OccursAt octets period_line) 0 (length octets + 1)
    → HasNoPeriodLine octets
none_found octets nowhere = record {
  nowhere = λ before after e.
      let here = stands_after octets before after e in
      let long = here.0 in
      nowhere (length before) (omega arith) (omega arith) here.1;
}

-- octets up to a place before which a search finds none
none_before : (octets : List ℕ) (place : ℕ) → Nowhere (OccursAt octets period_line) 0 place
    → HasNoPeriodLine (take (place + 2) octets)
none_before octets place before_it = record {
  nowhere = λ before after e.
      let whole : octets ≡ before ++ period_line ++ (after ++ drop (place + 2) octets) =
      sym (take-append-drop (place + 2) octets) ∙ ap (λ l. l ++ drop (place + 2) octets) e
      ∙ append_assoc (before ++ period_line) after (drop (place + 2) octets) in
      let long = (stands_after (take (place + 2) octets) before after e).0 in
      let short = length-take (place + 2) octets in
      before_it (length before) (omega arith) (omega (arith, short, long))
      (stands_after octets before (after ++ drop (place + 2) octets) whole).1;
}

-- where a search finds the first, the run ends with the line end
pub run_found : (octets : List ℕ) (place : ℕ)
    → NoneBefore (OccursAt octets period_line) 0 (length octets + 1) place
    → OccursAt octets period_line place → EndsRun octets (place + 2)
run_found octets place none here =
    let fits = here.fits in
    let front = take place octets in
    let after = drop (place + 3) octets in
    let whole : octets ≡ front ++ (period_line ++ after) =
    sym (take-append-drop place octets)
    ∙ ap (λ l. front ++ l) (OccursAt-split octets period_line place here) in
    let regrouped : octets ≡ (front ++ crlf) ++ (46 ∷ after) =
    whole ∙ sym (append_assoc front crlf (46 ∷ after)) in
    let front_long : length front ≡ place = length-take place octets ∙ omega arith in
    let long : length (front ++ crlf) ≡ place + 2 = length-append front crlf ∙ ap (λ n. n + 2) front_long in
    record {
      some = omega arith;
      within = omega arith;
      front = front;
      run_is = ap (take (place + 2)) regrouped ∙ take_at (front ++ crlf) (46 ∷ after) (place + 2) long;
      no_period = none_before octets place none.before;
      period =
          ap begins_with_period
          (ap (drop (place + 2)) regrouped ∙ drop_at (front ++ crlf) (46 ∷ after) (place + 2) long);
    }

-- the end of a run, by what a search answers
pub run_of_search : (octets : List ℕ) (answer : Option ℕ) → FindsNeedle octets period_line 0 answer
    → MatchOption answer (HasNoPeriodLine octets) (λ place. EndsRun octets (place + 2))
run_of_search octets None nowhere = none_found octets nowhere
run_of_search octets (Some place) first = run_found octets place first.0 first.1

-- What is sent for a run

-- a period for the first line is all that is put before a line
with_period-is : (line : List ℕ) → with_period line ≡ period_for line ++ line
with_period-is [] = refl
with_period-is (octet ∷ octets) = by_test (octet == 46) octet octets where
  by_test : (test : Bool) (octet : ℕ) (octets : List ℕ)
      → ◌≡◌ {A = List ℕ} (if test then 46 ∷ octet ∷ octets else octet ∷ octets)
      ((if test then 46 ∷ [] else []) ++ (octet ∷ octets))
  by_test true octet octets = refl
  by_test false octet octets = refl

-- the first octet of a line tells whether a period is put before it and what follows
period_for-front : (line afterwards : List ℕ) → period_for ((line ++ crlf) ++ afterwards) ≡ period_for line
period_for-front [] afterwards = refl
period_for-front (octet ∷ octets) afterwards = refl

-- what begins with a period is one and the rest
period_off : (octets : List ℕ) → begins_with_period octets ≡ true
    → (more : List ℕ) × (octets ≡ 46 ∷ more)
period_off [] begins = absurd (cc begins)
period_off (octet ∷ octets) begins = (octets, ap (λ o. o ∷ octets) (eqb-true octet 46 begins))

-- after a line end no line begins with a period
pub no_period_after : (front afterwards : List ℕ) → HasNoPeriodLine ((front ++ crlf) ++ afterwards)
    → begins_with_period afterwards ≡ false
no_period_after front afterwards none = elim (cases_Bool (begins_with_period afterwards)) [
  | inl begins ↦
      let off = period_off afterwards begins in
      absurd
      (none.nowhere front off.0 (ap (λ l. (front ++ crlf) ++ l) off.1 ∙ append_assoc front crlf (46 ∷ off.0) ∙ sym (append_assoc front period_line off.0)))
  | inr other ↦ other
]

-- nor does one in what follows
pub none_in_rest : (front afterwards : List ℕ) → HasNoPeriodLine (front ++ afterwards) → HasNoPeriodLine afterwards
none_in_rest front afterwards none = record {
  nowhere = λ before after e.
      none.nowhere (front ++ before) after
      (ap (λ l. front ++ l) (e ∙ append_assoc before period_line after) ∙ sym (append_assoc front before (period_line ++ after)) ∙ sym (append_assoc (front ++ before) period_line after));
}

-- where no line but the first begins with a period, one for the first is all that is put
sent_for_run : (lines : List (List ℕ)) → HasNoPeriodLine (lines_text lines)
    → lines_text (map with_period lines) ≡ period_for (lines_text lines) ++ lines_text lines
sent_for_run [] none = refl
sent_for_run (line ∷ lines) none =
    let afterwards = lines_text lines in
    let first_is_none : period_for afterwards ≡ [] =
    ap (λ b. if b then 46 ∷ [] else []) (no_period_after line afterwards none) in
    let rest : lines_text (map with_period lines) ≡ afterwards =
    sent_for_run lines (none_in_rest (line ++ crlf) afterwards none) ∙ ap (λ l. l ++ afterwards) first_is_none in
    let first : with_period line ++ crlf ≡ period_for line ++ (line ++ crlf) =
    ap (λ l. l ++ crlf) (with_period-is line) ∙ append_assoc (period_for line) line crlf in
    ap (λ l. (with_period line ++ crlf) ++ l) rest ∙ ap (λ l. l ++ afterwards) first
    ∙ append_assoc (period_for line) (line ++ crlf) afterwards
    ∙ ap (λ l. l ++ ((line ++ crlf) ++ afterwards)) (sym (period_for-front line afterwards))

-- the lines of a run, and what is sent for them
record SendsRun (run : List ℕ) : Type 0 where
  lines : List (List ℕ)
  each : AreLines lines
  run_is : run ≡ lines_text lines
  sent : period_for run ++ run ≡ lines_text (map with_period lines)

sends_run : (run : List ℕ) → ends_in_line_end run ≡ true → HasNoPeriodLine run → SendsRun run
sends_run run ends none =
    let written = (each_content_is_written run ends).1 in
    let none_of_lines : HasNoPeriodLine (lines_text written.lines) =
    subst HasNoPeriodLine written.content_is none in
    record {
      lines = written.lines;
      each = written.each;
      run_is = written.content_is;
      sent = ap (λ l. period_for l ++ l) written.content_is ∙ sym (sent_for_run written.lines none_of_lines);
    }

-- lines after lines
all_lines : (lines more : List (List ℕ)) → AreLines lines → AreLines more → AreLines (lines ++ more)
all_lines [] more none each = each
all_lines (line ∷ lines) more each others = (each.0, all_lines lines more each.1 others)

-- A content

-- at first nothing is sent but the period of the first line
pub begins_sending : (content old new : List ℕ) → ends_in_line_end content ≡ true
    → new ≡ old ++ period_for content → AddsSoFar content old new content
begins_sending content old new ends added = record {
  lines = [];
  each = tt;
  content_is = refl;
  added = added;
  rest_ends = ends;
}

-- the period for a run stands for its first line
run_begins : (run afterwards front : List ℕ) → run ≡ front ++ crlf
    → period_for (run ++ afterwards) ≡ period_for run
run_begins run afterwards front run_is =
    ap (λ r. period_for (r ++ afterwards)) run_is ∙ period_for-front front afterwards
    ∙ sym (ap period_for (sym (append-nil (front ++ crlf))) ∙ period_for-front front [])
    ∙ ap period_for (sym run_is)

-- a run is sent, and the period of the next
pub sends_next : (content old so_far rest new : List ℕ) (end : ℕ)
    → AddsSoFar content old so_far rest → EndsRun rest end
    → new ≡ (so_far ++ take end rest) ++ 46 ∷ [] → AddsSoFar content old new (drop end rest)
sends_next content old so_far rest new end adds run new_is =
    let here = take end rest in
    let afterwards = drop end rest in
    let whole : rest ≡ here ++ afterwards = sym (take-append-drop end rest) in
    let run_ends : ends_in_line_end here ≡ true = line_end_is_seen here run.front (inr run.run_is) in
    let sends = sends_run here run_ends run.no_period in
    let sent = lines_text (map with_period adds.lines) in
    let period : 46 ∷ [] ≡ period_for afterwards = sym (ap (λ b. if b then 46 ∷ [] else []) run.period) in
    let before : period_for rest ≡ period_for here =
    ap period_for whole ∙ run_begins here afterwards run.front run.run_is in
    let more : lines_text (map with_period (adds.lines ++ sends.lines)) ≡ sent ++ (period_for here ++ here) =
    ap lines_text (map-append with_period adds.lines sends.lines)
    ∙ flat_map-append line_text (map with_period adds.lines) (map with_period sends.lines)
    ∙ ap (λ l. sent ++ l) (sym sends.sent) in
    record {
      lines = adds.lines ++ sends.lines;
      each = all_lines adds.lines sends.lines adds.each sends.each;
      content_is =
          adds.content_is
          ∙ ap (λ l. lines_text adds.lines ++ l) (whole ∙ ap (λ l. l ++ afterwards) sends.run_is)
          ∙ sym (append_assoc (lines_text adds.lines) (lines_text sends.lines) afterwards)
          ∙ ap (λ l. l ++ afterwards) (sym (flat_map-append line_text adds.lines sends.lines));
      added =
          new_is
          ∙ ap (λ l. (l ++ here) ++ 46 ∷ []) (adds.added ∙ ap (λ p. old ++ (sent ++ p)) before)
          ∙ regroup old sent (period_for here) here (46 ∷ [])
          ∙ ap (λ l. old ++ (l ++ 46 ∷ [])) (sym more)
          ∙ ap (λ p. old ++ (lines_text (map with_period (adds.lines ++ sends.lines)) ++ p)) period;
      rest_ends =
          sym (ends_after_line run.front afterwards)
          ∙ ap (λ l. ends_in_line_end (l ++ afterwards)) (sym run.run_is)
          ∙ ap ends_in_line_end (sym whole) ∙ adds.rest_ends;
    } where
      regroup : (a b c d e : List ℕ) → ((a ++ (b ++ c)) ++ d) ++ e ≡ a ++ ((b ++ (c ++ d)) ++ e)
      regroup a b c d e = simp append_assoc

-- the last run is sent, and the end of mail data
pub sends_last : (content old so_far rest new : List ℕ) → AddsSoFar content old so_far rest
    → HasNoPeriodLine rest → new ≡ (so_far ++ rest) ++ end_of_data → AddsDotText content old new
sends_last content old so_far rest new adds none new_is =
    let sends = sends_run rest adds.rest_ends none in
    let sent = lines_text (map with_period adds.lines) in
    let lines = adds.lines ++ sends.lines in
    let more : lines_text (map with_period lines) ≡ sent ++ (period_for rest ++ rest) =
    ap lines_text (map-append with_period adds.lines sends.lines)
    ∙ flat_map-append line_text (map with_period adds.lines) (map with_period sends.lines)
    ∙ ap (λ l. sent ++ l) (sym sends.sent) in
    record {
      text = lines_text (map with_period lines) ++ end_of_data;
      writes = record {
        lines = lines;
        each = all_lines adds.lines sends.lines adds.each sends.each;
        content_is =
            adds.content_is ∙ ap (λ l. lines_text adds.lines ++ l) sends.run_is
            ∙ sym (flat_map-append line_text adds.lines sends.lines);
        text_is = refl;
      };
      added =
          new_is ∙ ap (λ l. (l ++ rest) ++ end_of_data) adds.added
          ∙ regroup old sent (period_for rest) rest end_of_data
          ∙ ap (λ l. old ++ (l ++ end_of_data)) (sym more);
    } where
      regroup : (a b c d e : List ℕ) → ((a ++ (b ++ c)) ++ d) ++ e ≡ a ++ ((b ++ (c ++ d)) ++ e)
      regroup a b c d e = simp append_assoc

-- what was there stays in front, and so it does where more is sent after it
pub stays_in_front : (content old so_far rest sent new : List ℕ) → AddsSoFar content old so_far rest
    → new ≡ so_far ++ sent → (more : List ℕ) × (new ≡ old ++ more)
stays_in_front content old so_far rest sent new adds new_is =
    let more = lines_text (map with_period adds.lines) ++ period_for rest in
    (more ++ sent, new_is ∙ ap (λ l. l ++ sent) adds.added ∙ append_assoc old more sent)

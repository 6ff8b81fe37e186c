-- What a reader has in hand, phase by phase, after the octets that it uses.
use Rattle.std.proofs.Common.{◌≡◌, ◌≢◌, ℕ, suc, ◌+◌, ◌-◌, ◌<◌, Bool, true, false, ◌&&◌, ◌==◌, if◌then◌else◌, List, [], ◌∷◌, ◌++◌, length, map, take, drop, get_or, refl, sym, ap, subst, ◌∙◌, arith, append_assoc, eq-eqb}
use Rattle.std.proofs.SliceLists.{all_by_recursion_push}
use Rattle.std.proofs.lemmas.List.{append-nil, map_push, flat_map_more, take_all, take-take, drop-take, take-append-drop, take_rest}
use Rattle.std.proofs.lemmas.Bool.{eqb-true, false≢true, ne_eqb}
use Rattle.relay_octets.specs.Line.{crlf, HasNoCrlf, line_text, lines_text, ends_in_cr, begins_with_lf}
use Rattle.relay_octets.proofs.Theorems.{no_crlf_joined, no_crlf_one, no_crlf_front}
use Rattle.relay_body.specs.DotText.{end_of_data, IsTextLine, without_period, content_of}
use Rattle.relay_body.specs.Gathering.{KeepsContent}
use Rattle.relay_body.specs.DotReading.{BeginsTextLine, IsPart, IsReading, HasRead, HasUsed, Uses, Feeds}
use Rattle.relay_body.specs.DotSteps.{begins_with_period, RunsOn, phase_after}
use Rattle.relay_body.specs.declared.gathered.Gathering.{Gathering}
use Rattle.relay_body.specs.declared.dot_reader.Phase.{Phase}
use Rattle.relay_body.specs.declared.dot_reader.Phase.TheVariants.{LineStart, Period, PeriodCr, Within, WithinCr, Done, Failed}
use Rattle.relay_body.specs.declared.dot_reader.DotCut.{DotCut}
use Rattle.relay_body.specs.declared.dot_reader.DotReader.{DotReader}

-- the text of one line more
pub lines_text-more : (lines : List (List ℕ)) (line : List ℕ)
    → lines_text lines ++ (line ++ crlf) ≡ lines_text (lines ++ line ∷ [])
lines_text-more lines line = flat_map_more line_text [] lines line

-- the content of one line more
pub content_of-more : (lines : List (List ℕ)) (line : List ℕ)
    → content_of lines ++ (without_period line ++ crlf) ≡ content_of (lines ++ line ∷ [])
content_of-more lines line =
    lines_text-more (map without_period lines) (without_period line)
    ∙ ap lines_text (sym (map_push without_period lines line))

-- a line ends
line_ends : (old : DotReader) (gathering : Gathering) (limit : ℕ) (before line used added : List ℕ)
    (reading : IsReading old limit before)
    → IsTextLine line → reading.part ++ used ≡ line ++ crlf
    → reading.content ++ added ≡ without_period line ++ crlf
    → KeepsContent gathering limit (content_of reading.lines ++ reading.content ++ added)
    → IsReading (record { phase = LineStart; gathering = gathering }) limit (before ++ used)
line_ends old gathering limit before line used added reading text_line joined content keeps = record {
  lines = reading.lines ++ line ∷ [];
  part = [];
  content = [];
  each = all_by_recursion_push IsTextLine reading.lines line reading.each text_line;
  octets_are =
      ap (λ t. t ++ used) reading.octets_are
      ∙ append_assoc (lines_text reading.lines) reading.part used
      ∙ ap (λ t. lines_text reading.lines ++ t) joined ∙ lines_text-more reading.lines line
      ∙ sym (append-nil (lines_text (reading.lines ++ line ∷ [])));
  part_is = (refl, refl);
  keeps =
      let all =
      append_assoc (content_of reading.lines) reading.content added
      ∙ ap (λ t. content_of reading.lines ++ t) content ∙ content_of-more reading.lines line
      ∙ sym (append-nil (content_of (reading.lines ++ line ∷ []))) in
      subst (λ (c : List ℕ). KeepsContent gathering limit c) all keeps;
}

-- a line goes on
pub line_goes_on : (old : DotReader) (phase : Phase) (gathering : Gathering) (limit : ℕ)
    (before used added : List ℕ) (reading : IsReading old limit before)
    → IsPart phase (reading.part ++ used) (reading.content ++ added)
    → KeepsContent gathering limit (content_of reading.lines ++ reading.content ++ added)
    → IsReading (record { phase = phase; gathering = gathering }) limit (before ++ used)
line_goes_on old phase gathering limit before used added reading part keeps = record {
  lines = reading.lines;
  part = reading.part ++ used;
  content = reading.content ++ added;
  each = reading.each;
  octets_are =
      ap (λ t. t ++ used) reading.octets_are
      ∙ append_assoc (lines_text reading.lines) reading.part used;
  part_is = part;
  keeps =
      subst (λ (c : List ℕ). KeepsContent gathering limit c)
      (append_assoc (content_of reading.lines) reading.content added) keeps;
}

-- within a line the phase says whether a CR was last
pub is_part_by : (last : Bool) (part content : List ℕ) → BeginsTextLine part
    → ends_in_cr part ≡ last → content ≡ without_period part
    → IsPart (if last then WithinCr else Within) part content
is_part_by true part content begins last same = (begins, last, same)
is_part_by false part content begins last same = (begins, last, same)

-- what shows that a line isn't the end of mail data shows it as the line goes on
pub begins_more : (part used : List ℕ) → BeginsTextLine part → HasNoCrlf (part ++ used)
    → BeginsTextLine (part ++ used)
begins_more part used begins none = record {
  no_crlf = none;
  not_end = λ rest e. begins.not_end (used ++ rest) (e ∙ append_assoc part used rest);
}

-- such a part isn't empty
pub begun_is_some : (part : List ℕ) → BeginsTextLine part → part ≢ []
begun_is_some part begins e = begins.not_end end_of_data (sym (ap (λ p. p ++ end_of_data) e))

-- the first period of what isn't empty is taken off its front
period_off : (test : Bool) (octet : ℕ) (octets used : List ℕ)
    → ◌≡◌ {A = List ℕ} (if test then octets ++ used else octet ∷ (octets ++ used))
    ((if test then octets else octet ∷ octets) ++ used)
period_off true octet octets used = refl
period_off false octet octets used = refl

pub without_period-append : (part used : List ℕ) → part ≢ []
    → without_period (part ++ used) ≡ without_period part ++ used
without_period-append [] used some = absurd (some refl)
without_period-append (octet ∷ octets) used some = period_off (octet == 46) octet octets used

-- a line without its first period keeps its line end
without_period-cr : (line : List ℕ)
    → without_period (line ++ 13 ∷ []) ≡ without_period line ++ 13 ∷ []
without_period-cr [] = refl
without_period-cr (octet ∷ octets) = period_off (octet == 46) octet octets (13 ∷ [])

-- what begins with no period stays as it is
without_period-none : (octets : List ℕ) → begins_with_period octets ≡ false
    → without_period octets ≡ octets
without_period-none [] none = refl
without_period-none (octet ∷ octets) none = ap (λ b. if b then octets else octet ∷ octets) none

begins_with_period-front : (front back : List ℕ) → begins_with_period (front ++ back) ≡ false
    → begins_with_period front ≡ false
begins_with_period-front [] back none = refl
begins_with_period-front (octet ∷ front) back none = none

-- the end of mail data begins with a period
no_end_begins : (used : List ℕ) → begins_with_period used ≡ false → 0 < length used
    → (rest : List ℕ) → end_of_data ≢ used ++ rest
no_end_begins [] none some rest e = absurd (omega arith)
no_end_begins (octet ∷ used) none some rest e =
    let same : octet ≡ 46 = cc in
    false≢true (sym none ∙ eq-eqb octet 46 same)

-- where what comes next runs on, a part of it does
pub runs_front : (phase : Phase) (front back : List ℕ) → RunsOn phase (front ++ back)
    → RunsOn phase front
runs_front LineStart front back runs = begins_with_period-front front back runs
runs_front Within front back runs = tt
runs_front Period front back runs = absurd runs
runs_front PeriodCr front back runs = absurd runs
runs_front WithinCr front back runs = absurd runs
runs_front Done front back runs = absurd runs
runs_front Failed front back runs = absurd runs

-- what runs on is content, but for a period that was taken off before it
pub run_content : (phase : Phase) (part content run : List ℕ) → RunsOn phase run
    → IsPart phase part content → content ++ run ≡ without_period (part ++ run)
run_content LineStart part content run runs is =
    ap (λ c. c ++ run) is.1 ∙ sym (without_period-none run runs)
    ∙ ap (λ p. without_period (p ++ run)) (sym is.0)
run_content Within part content run runs is =
    ap (λ c. c ++ run) is.2 ∙ sym (without_period-append part run (begun_is_some part is.0))
run_content Period part content run runs is = absurd runs
run_content PeriodCr part content run runs is = absurd runs
run_content WithinCr part content run runs is = absurd runs
run_content Done part content run runs is = absurd runs
run_content Failed part content run runs is = absurd runs

-- it makes no CR LF where it has none
pub run_has_no_crlf : (phase : Phase) (part content run : List ℕ) → RunsOn phase run
    → IsPart phase part content → HasNoCrlf run → HasNoCrlf (part ++ run)
run_has_no_crlf LineStart part content run runs is none =
    subst (λ (p : List ℕ). HasNoCrlf (p ++ run)) (sym is.0) none
run_has_no_crlf Within part content run runs is none =
    no_crlf_joined part run is.0.no_crlf none (ap (λ b. b && begins_with_lf run) is.1)
run_has_no_crlf Period part content run runs is none = absurd runs
run_has_no_crlf PeriodCr part content run runs is none = absurd runs
run_has_no_crlf WithinCr part content run runs is none = absurd runs
run_has_no_crlf Done part content run runs is none = absurd runs
run_has_no_crlf Failed part content run runs is none = absurd runs

-- and the line isn't the end of mail data
pub run_is_no_end : (phase : Phase) (part content used : List ℕ) → RunsOn phase used
    → IsPart phase part content → 0 < length used → (rest : List ℕ)
    → end_of_data ≢ part ++ used ++ rest
run_is_no_end LineStart part content used runs is some rest e =
    no_end_begins used runs some rest (e ∙ ap (λ p. p ++ used ++ rest) is.0)
run_is_no_end Within part content used runs is some rest e =
    is.0.not_end (used ++ rest) (e ∙ append_assoc part used rest)
run_is_no_end Period part content used runs is some rest e = absurd runs
run_is_no_end PeriodCr part content used runs is some rest e = absurd runs
run_is_no_end WithinCr part content used runs is some rest e = absurd runs
run_is_no_end Done part content used runs is some rest e = absurd runs
run_is_no_end Failed part content used runs is some rest e = absurd runs

-- the last octet says whether a CR ends the octets
pub ends_in_cr-last : (octets : List ℕ) → 0 < length octets
    → ends_in_cr octets ≡ (get_or octets (length octets - 1) 0 == 13)
ends_in_cr-last [] some = absurd (omega arith)
ends_in_cr-last (octet ∷ []) some = refl
ends_in_cr-last (octet ∷ next ∷ more) some =
    let down : length (octet ∷ next ∷ more) - 1 ≡ suc (length (next ∷ more) - 1) = omega arith in
    ends_in_cr-last (next ∷ more) (omega arith) ∙ ap (λ n. get_or (octet ∷ next ∷ more) n 0 == 13) (sym down)

-- what stands in front doesn't matter
pub ends_in_cr-append : (front back : List ℕ) → 0 < length back
    → ends_in_cr (front ++ back) ≡ ends_in_cr back
ends_in_cr-append [] back some = refl
ends_in_cr-append (octet ∷ []) [] some = absurd (omega arith)
ends_in_cr-append (octet ∷ []) (first ∷ back) some = refl
ends_in_cr-append (octet ∷ next ∷ front) back some = ends_in_cr-append (next ∷ front) back some

-- the part without its last CR
pub cr_off : (part : List ℕ) → ends_in_cr part ≡ true → (line : List ℕ) × (part ≡ line ++ 13 ∷ [])
cr_off [] ends = absurd (false≢true ends)
cr_off (octet ∷ []) ends = ([], ap (λ o. o ∷ []) (eqb-true octet 13 ends))
cr_off (octet ∷ next ∷ more) ends =
    let shorter = cr_off (next ∷ more) ends in
    (octet ∷ shorter.0, ap (λ l. octet ∷ l) shorter.1)

-- an LF after a CR ends the line
pub lf_ends_line : (old : DotReader) (gathering : Gathering) (octet : ℕ) → old.phase ≡ WithinCr
    → octet ≡ 10
    →
    ((limit : ℕ) (content : List ℕ) → KeepsContent old.gathering limit content → KeepsContent gathering limit (content ++ octet ∷ []))
    → Uses old (record { phase = LineStart; gathering = gathering }) (octet ∷ []) false
lf_ends_line old gathering octet phase lf keeps = record {
  stands = λ limit before reading.
      let is = subst (λ (p : Phase). IsPart p reading.part reading.content) phase reading.part_is in
      let shorter = cr_off reading.part is.1 in
      let line = shorter.0 in
      let whole : reading.part ++ octet ∷ [] ≡ line ++ crlf =
      ap (λ o. reading.part ++ o ∷ []) lf ∙ ap (λ p. p ++ 10 ∷ []) shorter.1
      ∙ append_assoc line (13 ∷ []) (10 ∷ []) in
      let text_line : IsTextLine line = record {
        no_crlf = no_crlf_front line (13 ∷ []) (subst (λ (p : List ℕ). HasNoCrlf p) shorter.1 is.0.no_crlf);
        not_end =
            λ e. is.0.not_end (10 ∷ []) (sym (ap (λ p. p ++ 10 ∷ []) (shorter.1 ∙ ap (λ l. l ++ 13 ∷ []) e)));
      } in
      let content : reading.content ++ octet ∷ [] ≡ without_period line ++ crlf =
      ap (λ o. reading.content ++ o ∷ []) lf
      ∙ ap (λ c. c ++ 10 ∷ []) (is.2 ∙ ap without_period shorter.1 ∙ without_period-cr line)
      ∙ append_assoc (without_period line) (13 ∷ []) (10 ∷ []) in
      line_ends old gathering limit before line (octet ∷ [])
      (octet ∷ []) reading text_line whole content
      (keeps limit (content_of reading.lines ++ reading.content) reading.keeps);
}

-- another octet after a CR stays within the line
pub octet_stays : (old : DotReader) (phase : Phase) (gathering : Gathering) (octet : ℕ)
    → old.phase ≡ WithinCr → octet ≢ 10 → phase ≡ phase_after octet
    →
    ((limit : ℕ) (content : List ℕ) → KeepsContent old.gathering limit content → KeepsContent gathering limit (content ++ octet ∷ []))
    → Uses old (record { phase = phase; gathering = gathering }) (octet ∷ []) false
octet_stays old phase gathering octet within other after keeps = record {
  stands = λ limit before reading.
      let is = subst (λ (p : Phase). IsPart p reading.part reading.content) within reading.part_is in
      let apart = ap (λ b. b && (octet == 10)) is.1 ∙ ne_eqb octet 10 other in
      let none = no_crlf_joined reading.part (octet ∷ []) is.0.no_crlf (no_crlf_one octet) apart in
      let begins = begins_more reading.part (octet ∷ []) is.0 none in
      let last = ends_in_cr-append reading.part (octet ∷ []) (omega arith) in
      let content =
      ap (λ c. c ++ octet ∷ []) is.2
      ∙ sym (without_period-append reading.part (octet ∷ []) (begun_is_some reading.part is.0)) in
      let part =
      is_part_by (octet == 13) (reading.part ++ octet ∷ [])
      (reading.content ++ octet ∷ []) begins last content in
      let here =
      subst (λ (p : Phase). IsPart p (reading.part ++ octet ∷ []) (reading.content ++ octet ∷ []))
      (sym after) part in
      line_goes_on old phase gathering limit before (octet ∷ []) (octet ∷ []) reading here
      (keeps limit (content_of reading.lines ++ reading.content) reading.keeps);
}

-- a line that begins with a period, a CR and another octet than LF
begins_with_cr : (octet : ℕ) → octet ≢ 10 → BeginsTextLine (46 ∷ 13 ∷ octet ∷ [])
begins_with_cr octet other = record {
  no_crlf =
      no_crlf_joined (46 ∷ 13 ∷ []) (octet ∷ [])
      (no_crlf_joined (46 ∷ []) (13 ∷ []) (no_crlf_one 46) (no_crlf_one 13) refl)
      (no_crlf_one octet) (ne_eqb octet 10 other);
  not_end = λ rest e. let same : octet ≡ 10 = cc in other same;
}

-- a CR that was held back is content where no LF follows
pub cr_stays : (old : DotReader) (phase : Phase) (gathering : Gathering) (octet : ℕ)
    → old.phase ≡ PeriodCr → octet ≢ 10 → phase ≡ phase_after octet
    →
    ((limit : ℕ) (content : List ℕ) → KeepsContent old.gathering limit content → KeepsContent gathering limit (content ++ 13 ∷ octet ∷ []))
    → Uses old (record { phase = phase; gathering = gathering }) (octet ∷ []) false
cr_stays old phase gathering octet held other after keeps = record {
  stands = λ limit before reading.
      let is = subst (λ (p : Phase). IsPart p reading.part reading.content) held reading.part_is in
      let part =
      is_part_by (octet == 13) (46 ∷ 13 ∷ octet ∷ []) (13 ∷ octet ∷ []) (begins_with_cr octet other)
      refl refl in
      let here = subst (λ (p : Phase). IsPart p (46 ∷ 13 ∷ octet ∷ []) (13 ∷ octet ∷ [])) (sym after) part in
      record {
        lines = reading.lines;
        part = 46 ∷ 13 ∷ octet ∷ [];
        content = 13 ∷ octet ∷ [];
        each = reading.each;
        octets_are =
            ap (λ t. t ++ octet ∷ []) reading.octets_are
            ∙ append_assoc (lines_text reading.lines) reading.part (octet ∷ [])
            ∙ ap (λ p. lines_text reading.lines ++ (p ++ octet ∷ [])) is.0;
        part_is = here;
        keeps =
            let kept = keeps limit (content_of reading.lines ++ reading.content) reading.keeps in
            subst (λ (c : List ℕ). KeepsContent gathering limit c)
            (ap (λ c. content_of reading.lines ++ c ++ 13 ∷ octet ∷ []) is.1 ∙ ap (λ c. c ++ 13 ∷ octet ∷ []) (append-nil (content_of reading.lines))) kept;
      };
}

-- what is used in two steps is used
pub uses_both : (old between new : DotReader) (front back whole : List ℕ) (done : Bool) → Uses old between front false → Uses between new back done → front ++ back ≡ whole → Uses old new whole done
uses_both old between new front back whole done one two joined = record {
  stands = λ limit before reading.
      subst (λ (octets : List ℕ). HasUsed done new limit octets)
      (append_assoc before front back ∙ ap (λ octets. before ++ octets) joined)
      (two.stands limit (before ++ front) (one.stands limit before reading));
}

-- what is used of a piece, and then of its rest
taken_both : (piece : List ℕ) (used more : ℕ)
    → take used piece ++ take more (drop used piece) ≡ take (used + more) piece
taken_both piece used more =
    ap (λ l. l ++ take more (drop used piece))
    (sym (take-take used (used + more) piece (omega arith)))
    ∙ ap (λ l. take used (take (used + more) piece) ++ l) (sym (drop-take used more piece))
    ∙ take-append-drop used (take (used + more) piece)

-- what is used of a piece, and then of its rest, is used
pub uses_piece : (old between new : DotReader) (piece : List ℕ) (used more : ℕ) (done : Bool) → Uses old between (take used piece) false → Uses between new (take more (take (length piece - used) (drop used piece))) done → Uses old new (take (used + more) piece) done
uses_piece old between new piece used more done one two =
    uses_both old between new (take used piece)
    (take more (take (length piece - used) (drop used piece)))
    (take (used + more) piece) done one two
    (ap (λ rest. take used piece ++ take more rest) (take_rest piece used) ∙ taken_both piece used more)

-- a feed that ends no text has used the whole piece, and the reader reads on
pub feed_reads_on : (old new : DotReader) (piece : List ℕ) (cut : DotCut) (limit : ℕ)
    (before : List ℕ)
    → Feeds old new piece cut → cut.done ≡ false → IsReading old limit before
    → IsReading new limit (before ++ piece)
feed_reads_on old new piece cut limit before feeds more reading =
    let all = ap (λ n. take n piece) (feeds.whole more) ∙ take_all (length piece) piece (omega arith) in
    subst (λ (octets : List ℕ). IsReading new limit (before ++ octets)) all
    (subst (λ (done : Bool). HasUsed done new limit (before ++ take cut.used piece)) more (feeds.uses.stands limit before reading))

-- a feed that ends a text has used it whole
pub feed_ends_text : (old new : DotReader) (piece : List ℕ) (cut : DotCut) (limit : ℕ)
    (before : List ℕ)
    → Feeds old new piece cut → cut.done ≡ true → IsReading old limit before
    → (content : List ℕ) × HasRead new limit (before ++ take cut.used piece) content
feed_ends_text old new piece cut limit before feeds ended reading =
    subst (λ (done : Bool). HasUsed done new limit (before ++ take cut.used piece)) ended
    (feeds.uses.stands limit before reading)

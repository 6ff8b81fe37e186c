-- Reading and writing a dot text octet by octet.
use Rattle.std.proofs.Common.{◌≡◌, ◌≢◌, ℕ, ◌+◌, ◌<◌, Bool, true, false, ◌&&◌, ◌==◌, if◌then◌else◌, List, [], ◌∷◌, ◌++◌, length, map, take, get_or, inl, inr, refl, sym, ap, subst, ◌∙◌, arith, append_assoc}
use Rattle.std.proofs.SliceLists.{all_by_recursion_push}
use Rattle.std.proofs.lemmas.List.{append-nil, map_push, take_more}
use Rattle.std.proofs.lemmas.Bool.{cases_Bool, and_parts, eqb-true, ne_eqb}
use Rattle.relay_octets.specs.Line.{crlf, HasNoCrlf, AreLines, lines_text, ends_in_cr}
use Rattle.relay_octets.proofs.Theorems.{no_crlf_front, no_crlf_joined, no_crlf_nil, no_crlf_one}
use Rattle.relay_body.specs.DotText.{end_of_data, ends_in_line_end, without_period, with_period, content_of, WritesDotText}
use Rattle.relay_body.specs.Gathering.{KeepsContent}
use Rattle.relay_body.specs.DotReading.{BeginsTextLine, IsPart, Uses}
use Rattle.relay_body.specs.DotSteps.{StandsForItself, phase_after}
use Rattle.relay_body.specs.declared.gathered.Gathering.{Gathering}
use Rattle.relay_body.specs.declared.dot_reader.Phase.{Phase}
use Rattle.relay_body.specs.declared.dot_reader.Phase.TheVariants.{LineStart, Period, PeriodCr, Within, WithinCr, Done, Failed}
use Rattle.relay_body.specs.declared.dot_reader.DotReader.{DotReader}
use Rattle.relay_body.proofs.DotTextLemmas.{ends_after_lines, nothing_ends_so}
use Rattle.relay_body.proofs.ReadingLemmas.{begins_more, begun_is_some, cr_off, ends_in_cr-append, is_part_by, line_goes_on, lines_text-more, uses_both, without_period-append}
use Rattle.relay_body.proofs.WritingLemmas.{with_period-crlf}

-- what comes after the octets that were used is used
pub uses_octet : (old between new : DotReader) (piece : List ℕ) (used : ℕ) (done : Bool) → Uses old between (take used piece) false → Uses between new (get_or piece used 0 ∷ []) done → used < length piece → Uses old new (take (used + 1) piece) done
uses_octet old between new piece used done one two some =
    uses_both old between new (take used piece) (get_or piece used 0 ∷ [])
    (take (used + 1) piece) done one two (sym (take_more piece used 0 some))

-- a line that begins with another octet than a period
begins_otherwise : (octet : ℕ) → octet ≢ 46 → BeginsTextLine (octet ∷ [])
begins_otherwise octet other = record {
  no_crlf = no_crlf_one octet;
  not_end = λ rest e. let same : octet ≡ 46 = cc in other same;
}

-- a line that begins with a period and another octet than a CR
begins_with_two : (octet : ℕ) → octet ≢ 13 → BeginsTextLine (46 ∷ octet ∷ [])
begins_with_two octet other = record {
  no_crlf = no_crlf_joined (46 ∷ []) (octet ∷ []) (no_crlf_one 46) (no_crlf_one octet) refl;
  not_end = λ rest e. let same : octet ≡ 13 = cc in other same;
}

-- such an octet makes a line that isn't the end of mail data
plain_begins : (phase : Phase) (part content : List ℕ) (octet : ℕ) → StandsForItself phase octet
    → IsPart phase part content → BeginsTextLine (part ++ octet ∷ [])
plain_begins LineStart part content octet plain is =
    subst (λ (p : List ℕ). BeginsTextLine (p ++ octet ∷ [])) (sym is.0) (begins_otherwise octet plain)
plain_begins Period part content octet plain is =
    subst (λ (p : List ℕ). BeginsTextLine (p ++ octet ∷ [])) (sym is.0) (begins_with_two octet plain)
plain_begins Within part content octet plain is =
    begins_more part (octet ∷ []) is.0
    (no_crlf_joined part (octet ∷ []) is.0.no_crlf (no_crlf_one octet) (ap (λ b. b && (octet == 10)) is.1))
plain_begins WithinCr part content octet plain is =
    begins_more part (octet ∷ []) is.0
    (no_crlf_joined part (octet ∷ []) is.0.no_crlf (no_crlf_one octet) (ap (λ b. b && (octet == 10)) is.1 ∙ ne_eqb octet 10 plain))
plain_begins PeriodCr part content octet plain is = absurd plain
plain_begins Done part content octet plain is = absurd plain
plain_begins Failed part content octet plain is = absurd plain

-- and it is content
plain_is_content : (phase : Phase) (part content : List ℕ) (octet : ℕ) → StandsForItself phase octet
    → IsPart phase part content → content ++ octet ∷ [] ≡ without_period (part ++ octet ∷ [])
plain_is_content LineStart part content octet plain is =
    ap (λ c. c ++ octet ∷ []) is.1
    ∙ sym (ap (λ b. if b then [] else octet ∷ []) (ne_eqb octet 46 plain))
    ∙ ap (λ p. without_period (p ++ octet ∷ [])) (sym is.0)
plain_is_content Period part content octet plain is =
    ap (λ c. c ++ octet ∷ []) is.1 ∙ ap (λ p. without_period (p ++ octet ∷ [])) (sym is.0)
plain_is_content Within part content octet plain is =
    ap (λ c. c ++ octet ∷ []) is.2 ∙ sym (without_period-append part (octet ∷ []) (begun_is_some part is.0))
plain_is_content WithinCr part content octet plain is =
    ap (λ c. c ++ octet ∷ []) is.2 ∙ sym (without_period-append part (octet ∷ []) (begun_is_some part is.0))
plain_is_content PeriodCr part content octet plain is = absurd plain
plain_is_content Done part content octet plain is = absurd plain
plain_is_content Failed part content octet plain is = absurd plain

-- such an octet goes on within the line
pub plain_stays : (old : DotReader) (phase : Phase) (gathering : Gathering) (octet : ℕ)
    → StandsForItself old.phase octet → phase ≡ phase_after octet
    →
    ((limit : ℕ) (content : List ℕ) → KeepsContent old.gathering limit content → KeepsContent gathering limit (content ++ octet ∷ []))
    → Uses old (record { phase = phase; gathering = gathering }) (octet ∷ []) false
plain_stays old phase gathering octet plain after keeps = record {
  stands = λ limit before reading.
      let begins = plain_begins old.phase reading.part reading.content octet plain reading.part_is in
      let last = ends_in_cr-append reading.part (octet ∷ []) (omega arith) in
      let content = plain_is_content old.phase reading.part reading.content octet plain reading.part_is in
      let part =
      is_part_by (octet == 13) (reading.part ++ octet ∷ [])
      (reading.content ++ octet ∷ []) begins last content in
      let here =
      subst (λ (p : Phase). IsPart p (reading.part ++ octet ∷ []) (reading.content ++ octet ∷ []))
      (sym after) part in
      line_goes_on old phase gathering limit before (octet ∷ []) (octet ∷ []) reading here
      (keeps limit (content_of reading.lines ++ reading.content) reading.keeps);
}

-- nothing stands there
abbrev pub is_nothing : List ℕ → Bool
is_nothing [] = true
is_nothing (octet ∷ octets) = false

-- what is written of an octet, by whether a line begins there
abbrev pub octet_text : Bool → ℕ → List ℕ
octet_text begins octet = if begins then with_period (octet ∷ []) else octet ∷ []

-- the text so far is what is sent for this front of a content: lines, and a part of one
pub record WritesFront (front text : List ℕ) (begins after_cr : Bool) : Type 0 where
  pub lines : List (List ℕ)
  pub part : List ℕ
  pub each : AreLines lines
  pub none : HasNoCrlf part
  pub front_is : front ≡ lines_text lines ++ part
  pub text_is : text ≡ lines_text (map with_period lines) ++ with_period part
  pub begins_is : begins ≡ is_nothing part
  pub cr_is : after_cr ≡ ends_in_cr part

-- of no content nothing is sent
pub writes_nothing : WritesFront [] [] true false
writes_nothing = record {
  lines = [];
  part = [];
  each = tt;
  none = no_crlf_nil;
  front_is = refl;
  text_is = refl;
  begins_is = refl;
  cr_is = refl;
}

more_is_something : (part : List ℕ) (octet : ℕ) → is_nothing (part ++ octet ∷ []) ≡ false
more_is_something [] octet = refl
more_is_something (first ∷ part) octet = refl

-- an octet after others doesn't touch the period in front of them
octet_after : (test : Bool) (first octet : ℕ) (octets : List ℕ)
    → ◌≡◌ {A = List ℕ} ((if test then 46 ∷ first ∷ octets else first ∷ octets) ++ octet ∷ [])
    (if test then 46 ∷ first ∷ (octets ++ octet ∷ []) else first ∷ (octets ++ octet ∷ []))
octet_after true first octet octets = refl
octet_after false first octet octets = refl

with_period-more : (part : List ℕ) (octet : ℕ)
    → with_period part ++ octet_text (is_nothing part) octet ≡ with_period (part ++ octet ∷ [])
with_period-more [] octet = refl
with_period-more (first ∷ octets) octet = octet_after (first == 46) first octet octets

-- one octet more is written
pub writes_octet : (front text written : List ℕ) (begins after_cr : Bool) (octet : ℕ)
    → WritesFront front text begins after_cr → written ≡ text ++ octet_text begins octet
    → WritesFront (front ++ octet ∷ []) written (after_cr && octet == 10) (octet == 13)
writes_octet front text written begins after_cr octet so_far adds =
    let sent = lines_text (map with_period so_far.lines) in
    let texts : written ≡ sent ++ with_period (so_far.part ++ octet ∷ []) =
    adds ∙ ap (λ t. t ++ octet_text begins octet) so_far.text_is
    ∙ append_assoc sent (with_period so_far.part) (octet_text begins octet)
    ∙ ap (λ b. sent ++ (with_period so_far.part ++ octet_text b octet)) so_far.begins_is
    ∙ ap (λ t. sent ++ t) (with_period-more so_far.part octet) in
    let fronts : front ++ octet ∷ [] ≡ lines_text so_far.lines ++ (so_far.part ++ octet ∷ []) =
    ap (λ t. t ++ octet ∷ []) so_far.front_is
    ∙ append_assoc (lines_text so_far.lines) so_far.part (octet ∷ []) in
    elim (cases_Bool (after_cr && octet == 10)) [
      | inl ends ↦
          let parts = and_parts after_cr (octet == 10) ends in
          let lf = eqb-true octet 10 parts.1 in
          let shorter = cr_off so_far.part (sym so_far.cr_is ∙ parts.0) in
          let line = shorter.0 in
          let whole : so_far.part ++ octet ∷ [] ≡ line ++ crlf =
          ap (λ o. so_far.part ++ o ∷ []) lf ∙ ap (λ p. p ++ 10 ∷ []) shorter.1
          ∙ append_assoc line (13 ∷ []) (10 ∷ []) in
          record {
            lines = so_far.lines ++ line ∷ [];
            part = [];
            each =
                all_by_recursion_push HasNoCrlf so_far.lines line so_far.each
                (no_crlf_front line (13 ∷ []) (subst (λ (p : List ℕ). HasNoCrlf p) shorter.1 so_far.none));
            none = no_crlf_nil;
            front_is =
                fronts ∙ ap (λ p. lines_text so_far.lines ++ p) whole
                ∙ lines_text-more so_far.lines line
                ∙ sym (append-nil (lines_text (so_far.lines ++ line ∷ [])));
            text_is =
                texts ∙ ap (λ p. sent ++ with_period p) whole
                ∙ ap (λ p. sent ++ p) (with_period-crlf line)
                ∙ lines_text-more (map with_period so_far.lines) (with_period line)
                ∙ ap lines_text (sym (map_push with_period so_far.lines line))
                ∙ sym (append-nil (lines_text (map with_period (so_far.lines ++ line ∷ []))));
            begins_is = ends;
            cr_is = ap (λ o. o == 13) lf;
          }
      | inr apart ↦ record {
        lines = so_far.lines;
        part = so_far.part ++ octet ∷ [];
        each = so_far.each;
        none =
            no_crlf_joined so_far.part (octet ∷ []) so_far.none (no_crlf_one octet)
            (ap (λ b. b && (octet == 10)) (sym so_far.cr_is) ∙ apart);
        front_is = fronts;
        text_is = texts;
        begins_is = apart ∙ sym (more_is_something so_far.part octet);
        cr_is = sym (ends_in_cr-append so_far.part (octet ∷ []) (omega arith));
      }
    ]

-- the same, of the octets of a content up to a place
pub writes_next : (content text written : List ℕ) (place : ℕ) (begins after_cr : Bool)
    → WritesFront (take place content) text begins after_cr → place < length content
    → written ≡ text ++ octet_text begins (get_or content place 0)
    → WritesFront (take (place + 1) content) written (after_cr && get_or content place 0 == 10)
    (get_or content place 0 == 13)
writes_next content text written place begins after_cr so_far some adds =
    let octet = get_or content place 0 in
    subst (λ (front : List ℕ). WritesFront front written (after_cr && octet == 10) (octet == 13))
    (sym (take_more content place 0 some))
    (writes_octet (take place content) text written begins after_cr octet so_far adds)

-- after the whole content, the end of mail data makes the text whole
pub writes_whole : (content front text written : List ℕ) (begins after_cr : Bool)
    → WritesFront front text begins after_cr → front ≡ content → ends_in_line_end content ≡ true
    → written ≡ text ++ end_of_data → WritesDotText content written
writes_whole content front text written begins after_cr so_far all ends adds =
    let content_is = sym all ∙ so_far.front_is in
    let sent = lines_text (map with_period so_far.lines) in
    let nothing =
    nothing_ends_so so_far.part so_far.none
    (sym (ends_after_lines so_far.lines so_far.part) ∙ ap ends_in_line_end (sym content_is) ∙ ends) in
    record {
      lines = so_far.lines;
      each = so_far.each;
      content_is =
          content_is ∙ ap (λ p. lines_text so_far.lines ++ p) nothing
          ∙ append-nil (lines_text so_far.lines);
      text_is =
          adds
          ∙ ap (λ t. t ++ end_of_data)
          (so_far.text_is ∙ ap (λ p. sent ++ with_period p) nothing ∙ append-nil sent);
    }

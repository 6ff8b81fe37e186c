-- Which places were reported as delayed, change by change.
use Rattle.std.proofs.Common.{◌≡◌, ◌⊎◌, inl, inr, ℕ, zero, suc, ◌+◌, ◌==◌, nat_le, Bool, true, false, not, ◌&&◌, ◌||◌, if◌then◌else◌, List, [], ◌∷◌, map, slice_get, slice_set, Option, None, Some, refl, sym, subst, ap, ◌∙◌, arith, option_and_then}
use Rattle.std.specs.Option.{option_map_or}
use Rattle.std.proofs.lemmas.Bool.{cases_eq, eq-eqb, ne_eqb, false≢true}
use Rattle.relay_envelope.specs.declared.envelope.Recipient.{Recipient}
use Rattle.relay_book.specs.declared.version.Version.{Version}
use Rattle.relay_book.specs.declared.due_report.DueReport.{DueReport}
use Rattle.relay_book.specs.declared.due_report.DueReport.TheVariants.{OfDelay}
use Rattle.relay_book.specs.declared.change.Accept.{Accept as AcceptFields}
use Rattle.relay_book.specs.declared.change.Ruling.{Ruling}
use Rattle.relay_book.specs.declared.change.Verdict.{Verdict}
use Rattle.relay_book.specs.declared.change.Verdict.TheVariants.{Taken, Refused, Later, CantSend, NoRoute, Withdrawn}
use Rattle.relay_book.specs.declared.message.Place.{Place}
use Rattle.relay_book.specs.declared.fate.Fate.TheVariants.{Waits, Late, Failed}
use Rattle.relay_book.specs.DelayLaw.{is_delay}
use Rattle.relay_book.specs.DueMoment.{is_later, waits_in}
use Rattle.relay_book.specs.DueReport.{due_report_of, lateness, patience, reports_delay, wants_delay}
use Rattle.relay_book.specs.Queue.{AreRulings, holds_at, is_held, held_place, place_after, place_ruled, places_after, places_ruled, tells_delay}
use Rattle.relay_book.specs.Record.{is_null}
use Rattle.relay_book.proofs.PlaceLemmas.{none_some, some_is, rulings_stay}
use Rattle.relay_book.proofs.TimeLemmas.{get_here, get_other, first_only}

or_none : (before : Bool) → before ≡ (before || false)
or_none true = refl
or_none false = refl

-- a place that is late is marked where its sender asked, and stays marked
late_marks : (before knows wants null : Bool)
    → (tells_delay (if null then None else (if knows && wants && not before then Some OfDelay else None)) || before)
    ≡ (before || (knows && (true && (not null && wants))))
late_marks true true true true = refl
late_marks true true true false = refl
late_marks true true false true = refl
late_marks true true false false = refl
late_marks true false wants true = refl
late_marks true false wants false = refl
late_marks false true true true = refl
late_marks false true true false = refl
late_marks false true false true = refl
late_marks false true false false = refl
late_marks false false wants true = refl
late_marks false false wants false = refl

none_marks : (before knows null : Bool) → before ≡ (before || (knows && (true && (not null && false))))
none_marks true knows null = refl
none_marks false true true = refl
none_marks false true false = refl
none_marks false false null = refl

-- one that isn't late is left as it is
early_marks : (before knows null wants : Bool)
    → (tells_delay (if null then None else None) || before) ≡ (before || (knows && (false && (not null && wants))))
early_marks true knows true wants = refl
early_marks true knows false wants = refl
early_marks false true true wants = refl
early_marks false true false wants = refl
early_marks false false true wants = refl
early_marks false false false wants = refl

early_none : (before knows null : Bool) → before ≡ (before || (knows && (false && (not null && false))))
early_none true knows null = refl
early_none false true null = refl
early_none false false null = refl

module _ (version : Version) (accept : AcceptFields) (at : ℕ) (old : Place) where
  -- what is due of the place of a recipient that was put off
  abbrev due_of : Bool → Option Recipient → Option DueReport
  due_of late o =
      option_and_then (λ recipient. due_report_of version accept.envelope.reverse_path recipient.notify old (if late then Late else Waits)) o

  abbrev asks : Option Recipient → Bool
  asks o = not (is_null accept.envelope.reverse_path) && option_map_or (λ recipient. wants_delay recipient.notify) o false

  marks_by : (late : Bool) (o : Option Recipient) → (tells_delay (due_of late o) || old.delayed) ≡ (old.delayed || (reports_delay version && (late && asks o)))
  marks_by true None = none_marks old.delayed (reports_delay version) (is_null accept.envelope.reverse_path)
  marks_by true (Some recipient) =
      late_marks old.delayed (reports_delay version) (wants_delay recipient.notify) (is_null accept.envelope.reverse_path)
  marks_by false None = early_none old.delayed (reports_delay version) (is_null accept.envelope.reverse_path)
  marks_by false (Some recipient) =
      early_marks old.delayed (reports_delay version) (is_null accept.envelope.reverse_path) (wants_delay recipient.notify)

-- one verdict
put_off : (version : Version) (accept : AcceptFields) (at n : ℕ) (old : Place) (past late : Bool) (o : Option Recipient)
    → (place_after at old (if past then Failed else (if late then Late else Waits))
    (option_and_then (λ recipient. due_report_of version accept.envelope.reverse_path recipient.notify old (if past then Failed else (if late then Late else Waits))) o)).held
    ≡ true
    → (place_after at old (if past then Failed else (if late then Late else Waits))
    (option_and_then (λ recipient. due_report_of version accept.envelope.reverse_path recipient.notify old (if past then Failed else (if late then Late else Waits))) o)).delayed
    ≡ (old.delayed || (reports_delay version && (late && asks version accept at old o)))
put_off version accept at n old true late o held = absurd (false≢true held)
put_off version accept at n old false true o held = marks_by version accept at old true o
put_off version accept at n old false false o held = marks_by version accept at old false o

marked_later : (version : Version) (accept : AcceptFields) (at n : ℕ) (old : Place) (verdict : Verdict)
    → (place_ruled version accept at old (record { place = n; verdict = verdict })).held ≡ true
    → (place_ruled version accept at old (record { place = n; verdict = verdict })).delayed
    ≡ (if is_later verdict then old.delayed || is_delay version accept at n else old.delayed)
marked_later version accept at n old (Taken dsn) held = absurd (false≢true held)
marked_later version accept at n old (Refused code text) held = absurd (false≢true held)
marked_later version accept at n old CantSend held = absurd (false≢true held)
marked_later version accept at n old NoRoute held = absurd (false≢true held)
marked_later version accept at n old (Withdrawn withdrawal) held = absurd (false≢true held)
marked_later version accept at n old Later held =
    put_off version accept at n old (nat_le (accept.at + patience) at) (nat_le (accept.at + lateness) at)
    (slice_get accept.envelope.recipients n) held

-- held places are marked as told
abbrev pub AreMarked : (ℕ → Bool) → List Place → Type 0
AreMarked marks places = (n : ℕ) (place : Place) → slice_get places n ≡ Some place → place.held ≡ true → place.delayed ≡ marks n

-- the marks after one ruling
abbrev pub marks_after : Version → AcceptFields → ℕ → (ℕ → Bool) → Ruling → ℕ → Bool
marks_after version accept at marks ruling n =
    if ruling.place == n && is_later ruling.verdict then marks n || is_delay version accept at n else marks n

marked_after : (version : Version) (accept : AcceptFields) (at : ℕ) (marks : ℕ → Bool) (places : List Place) (ruling : Ruling) → holds_at places ruling.place ≡ true
    → AreMarked marks places → AreMarked (marks_after version accept at marks ruling) (places_after version accept at places ruling)
marked_after version accept at marks places ruling holds marked n place = by (slice_get places ruling.place) refl holds
  where
    new : Place → Place
    new old = place_ruled version accept at old ruling

    after : (old : Place) → slice_get places ruling.place ≡ Some old → old.held ≡ true
        → slice_get (slice_set places ruling.place (place_ruled version accept at old ruling)) n ≡ Some place → place.held ≡ true
        → (ruling.place ≡ n) ⊎ (ruling.place ≡ n → ⊥) → place.delayed ≡ marks_after version accept at marks ruling n
    after old is was got held (inl same) =
        let here = some_is (place_ruled version accept at old ruling) place
        (sym (get_here places ruling.place old (place_ruled version accept at old ruling) is)
        ∙ subst (λ m. slice_get (slice_set places ruling.place (place_ruled version accept at old ruling)) m ≡ Some place) (sym same) got) in
        let now = marked_later version accept at ruling.place old ruling.verdict (subst (λ (p : Place). p.held ≡ true) (sym here) held) in
        let before = marked ruling.place old is was in
        sym (ap (λ (p : Place). p.delayed) here) ∙ now
        ∙ ap (λ (b : Bool). if is_later ruling.verdict then b || is_delay version accept at ruling.place else b) before
        ∙ subst (λ m. (if is_later ruling.verdict then marks ruling.place || is_delay version accept at ruling.place else marks ruling.place)
        ≡ marks_after version accept at marks ruling m) same
        (ap (λ (test : Bool). if test && is_later ruling.verdict then marks ruling.place || is_delay version accept at ruling.place else marks ruling.place)
        (sym (eq-eqb ruling.place ruling.place refl)))
    after old is was got held (inr out) =
        marked n place (sym (get_other places ruling.place n (place_ruled version accept at old ruling) out) ∙ got) held
        ∙ ap (λ (test : Bool). if test && is_later ruling.verdict then marks n || is_delay version accept at n else marks n) (sym (ne_eqb ruling.place n out))

    by : (o : Option Place) → slice_get places ruling.place ≡ o → option_map_or is_held o false ≡ true
        → slice_get (option_map_or (λ place. slice_set places ruling.place (place_ruled version accept at place ruling)) o places) n ≡ Some place
        → place.held ≡ true → place.delayed ≡ marks_after version accept at marks ruling n
    by None is was got held = absurd (false≢true was)
    by (Some old) is was got held = after old is was got held (cases_eq ruling.place n)

merged : (before delay first rest : Bool) → (first ≡ true → rest ≡ false)
    → (if rest then (if first then before || delay else before) || delay else (if first then before || delay else before))
    ≡ (if first || rest then before || delay else before)
merged before delay true rest out = ap (λ (test : Bool). if test then (before || delay) || delay else before || delay) (out refl)
merged before delay false rest out = refl

-- after all verdicts of an outcome
pub marked_ruled : (version : Version) (accept : AcceptFields) (at : ℕ) (marks : ℕ → Bool) (places : List Place) (least : ℕ) (rulings : List Ruling) → AreRulings places least rulings
    → AreMarked marks places
    → AreMarked (λ n. if waits_in n rulings then marks n || is_delay version accept at n else marks n) (places_ruled version accept at places rulings)
marked_ruled version accept at marks places least [] are marked n place got held = marked n place got held
marked_ruled version accept at marks places least (ruling ∷ rulings) are marked n place got held =
    let stay = rulings_stay version accept at places ruling (ruling.place + 1) rulings (omega arith) are.2 in
    let now = marked_after version accept at marks places ruling are.1 marked in
    marked_ruled version accept at (marks_after version accept at marks ruling) (places_after version accept at places ruling) (ruling.place + 1) rulings stay now n place got held
    ∙ merged (marks n) (is_delay version accept at n) (ruling.place == n && is_later ruling.verdict) (waits_in n rulings) (first_only places ruling rulings n are.2)

-- a message as it is accepted
pub marked_new : (at : ℕ) (recipients : List Recipient) (n : ℕ) (place : Place) → slice_get (map (λ recipient. held_place 0 false at) recipients) n ≡ Some place
    → place.delayed ≡ false
marked_new at [] n place got = absurd (none_some place got)
marked_new at (recipient ∷ recipients) zero place got = ap (λ (p : Place). p.delayed) (sym (some_is (held_place 0 false at) place got))
marked_new at (recipient ∷ recipients) (suc n) place got = marked_new at recipients n place got

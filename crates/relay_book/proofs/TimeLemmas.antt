-- When places are due, change by change.
use Rattle.std.proofs.Common.{◌≡◌, ◌⊎◌, inl, inr, ℕ, zero, suc, ◌+◌, ◌-◌, ◌*◌, ◌^◌, ◌<◌, ◌≤◌, ◌==◌, min, nat_le, Bool, true, false, ◌&&◌, ◌||◌, if◌then◌else◌, List, [], ◌∷◌, map, length, slice_get, slice_set, Option, None, Some, refl, sym, subst, ap, ◌∙◌, arith, pow_mono}
use Rattle.std.specs.Option.{option_map_or}
use Rattle.std.proofs.lemmas.Bool.{cases_eq, cases_lt, eq-eqb, ne_eqb, false≢true}
use Rattle.relay_envelope.specs.declared.envelope.Recipient.{Recipient}
use Rattle.relay_book.specs.declared.version.Version.{Version}
use Rattle.relay_book.specs.declared.due_report.DueReport.{DueReport}
use Rattle.relay_book.specs.declared.change.Accept.{Accept as AcceptFields}
use Rattle.relay_book.specs.declared.change.Ruling.{Ruling}
use Rattle.relay_book.specs.declared.change.Verdict.{Verdict}
use Rattle.relay_book.specs.declared.change.Verdict.TheVariants.{Taken, Refused, Later, CantSend, NoRoute, Withdrawn}
use Rattle.relay_book.specs.declared.message.Place.{Place}
use Rattle.relay_book.specs.declared.fate.Fate.TheVariants.{Waits, Late, Failed}
use Rattle.relay_book.specs.DueReport.{due_for, fate_of, lateness, patience}
use Rattle.relay_book.specs.DueMoment.{due_moment_of, wait_after, is_later, waits_in}
use Rattle.relay_book.specs.Queue.{AreRulings, holds_at, is_held, held_place, place_after, place_ruled, places_after, places_ruled, waiting_place}
use Rattle.relay_book.proofs.PlaceLemmas.{none_some, some_is, rulings_stay}

-- four Later verdicts and more wait alike
pub wait_capped : (n : ℕ) → wait_after (min n 4) ≡ wait_after n
wait_capped n = by (cases_lt n 4)
  where
    by : (n < 4) ⊎ (4 ≤ n) → wait_after (min n 4) ≡ wait_after n
    by (inl few) = ap wait_after (omega (arith, few))
    by (inr many) =
        let capped : min n 4 ≡ 4 = omega (arith, many) in
        let power : 2 ^ 3 ≤ 2 ^ (n - 1) = pow_mono {i = 3} {j = n - 1} (omega (arith, many)) in
        let long : min (1800 * 2 ^ (n - 1)) 14400 ≡ 14400 = omega (arith, power) in
        ap wait_after capped ∙ sym long

-- a held place is due by its acceptance and its Later verdicts
pub record IsTimed (since : ℕ) (laters : List ℕ) (place : Place) : Type 0 where
  pub count : place.laters ≡ min (length laters) 4
  pub due : place.due ≡ due_moment_of since laters

abbrev pub AreTimed : ℕ → (ℕ → List ℕ) → List Place → Type 0
AreTimed since laters places = (n : ℕ) (place : Place) → slice_get places n ≡ Some place → place.held ≡ true → IsTimed since (laters n) place

-- one verdict
timed_waiting : (since at : ℕ) (laters : List ℕ) (place : Place) (due : Option DueReport) → IsTimed since laters place
    → IsTimed since (at ∷ laters) (waiting_place at place due)
timed_waiting since at laters place due timed =
    let count = timed.count in
    let same : min (place.laters + 1) 4 ≡ min (suc (length laters)) 4 = omega (arith, count) in
    record {
      count = same;
      due = ap (λ n. at + wait_after n) same ∙ ap (λ n. at + n) (wait_capped (suc (length laters)));
    }

timed_later : (since at : ℕ) (laters : List ℕ) (place : Place) (verdict : Verdict) (due : Option DueReport) → IsTimed since laters place
    → (place_after at place (fate_of since at verdict) due).held ≡ true
    → IsTimed since (if is_later verdict then at ∷ laters else laters) (place_after at place (fate_of since at verdict) due)
timed_later since at laters place (Taken dsn) due timed held = absurd (false≢true held)
timed_later since at laters place (Refused code text) due timed held = absurd (false≢true held)
timed_later since at laters place CantSend due timed held = absurd (false≢true held)
timed_later since at laters place NoRoute due timed held = absurd (false≢true held)
timed_later since at laters place (Withdrawn withdrawal) due timed held = absurd (false≢true held)
timed_later since at laters place Later due timed held = by (nat_le (since + patience) at) (nat_le (since + lateness) at) held
  where
    by : (past late : Bool) → (place_after at place (if past then Failed else (if late then Late else Waits)) due).held ≡ true
        → IsTimed since (at ∷ laters) (place_after at place (if past then Failed else (if late then Late else Waits)) due)
    by true late held = absurd (false≢true held)
    by false true held = timed_waiting since at laters place due timed
    by false false held = timed_waiting since at laters place due timed

pub get_here : (places : List Place) (n : ℕ) (old new : Place) → slice_get places n ≡ Some old → slice_get (slice_set places n new) n ≡ Some new
get_here [] n old new is = absurd (none_some old is)
get_here (place ∷ places) zero old new is = refl
get_here (place ∷ places) (suc n) old new is = get_here places n old new is

pub get_other : (places : List Place) (n m : ℕ) (new : Place) → (n ≡ m → ⊥) → slice_get (slice_set places n new) m ≡ slice_get places m
get_other [] n m new out = refl
get_other (place ∷ places) zero zero new out = absurd (out refl)
get_other (place ∷ places) zero (suc m) new out = refl
get_other (place ∷ places) (suc n) zero new out = refl
get_other (place ∷ places) (suc n) (suc m) new out = get_other places n m new (λ same. out (ap suc same))

-- the Later verdicts after one ruling
abbrev pub laters_after : ℕ → (ℕ → List ℕ) → Ruling → ℕ → List ℕ
laters_after at laters ruling n = if ruling.place == n && is_later ruling.verdict then at ∷ laters n else laters n

timed_after : (version : Version) (accept : AcceptFields) (at : ℕ) (laters : ℕ → List ℕ) (places : List Place) (ruling : Ruling) → holds_at places ruling.place ≡ true
    → AreTimed accept.at laters places → AreTimed accept.at (laters_after at laters ruling) (places_after version accept at places ruling)
timed_after version accept at laters places ruling holds timed n place = by (slice_get places ruling.place) refl holds
  where
    after : (old : Place) → slice_get places ruling.place ≡ Some old → old.held ≡ true
        → slice_get (slice_set places ruling.place (place_ruled version accept at old ruling)) n ≡ Some place → place.held ≡ true
        → (ruling.place ≡ n) ⊎ (ruling.place ≡ n → ⊥) → IsTimed accept.at (laters_after at laters ruling n) place
    after old is was got held (inl same) =
        let here = some_is (place_ruled version accept at old ruling) place
        (sym (get_here places ruling.place old (place_ruled version accept at old ruling) is)
        ∙ subst (λ m. slice_get (slice_set places ruling.place (place_ruled version accept at old ruling)) m ≡ Some place) (sym same) got) in
        let before = timed ruling.place old is was in
        let now = timed_later accept.at at (laters ruling.place) old ruling.verdict (due_for version accept at old ruling) before (subst (λ (p : Place). p.held ≡ true) (sym here) held) in
        subst (IsTimed accept.at (laters_after at laters ruling n)) here
        (subst (λ m. IsTimed accept.at (laters_after at laters ruling m) (place_ruled version accept at old ruling)) same
        (subst (λ (test : Bool). IsTimed accept.at (if test && is_later ruling.verdict then at ∷ laters ruling.place else laters ruling.place) (place_ruled version accept at old ruling))
        (sym (eq-eqb ruling.place ruling.place refl)) now))
    after old is was got held (inr out) =
        subst (λ (test : Bool). IsTimed accept.at (if test && is_later ruling.verdict then at ∷ laters n else laters n) place) (sym (ne_eqb ruling.place n out))
        (timed n place (sym (get_other places ruling.place n (place_ruled version accept at old ruling) out) ∙ got) held)

    by : (o : Option Place) → slice_get places ruling.place ≡ o → option_map_or is_held o false ≡ true
        → slice_get (option_map_or (λ place. slice_set places ruling.place (place_ruled version accept at place ruling)) o places) n ≡ Some place
        → place.held ≡ true → IsTimed accept.at (laters_after at laters ruling n) place
    by None is was got held = absurd (false≢true was)
    by (Some old) is was got held = after old is was got held (cases_eq ruling.place n)

-- an earlier place doesn't wait in later rulings
waits_after : (places : List Place) (least : ℕ) (rulings : List Ruling) (n : ℕ) → AreRulings places least rulings → n < least → waits_in n rulings ≡ false
waits_after places least [] n are below = refl
waits_after places least (ruling ∷ rulings) n are below =
    ap (λ (test : Bool). (test && is_later ruling.verdict) || waits_in n rulings) (ne_eqb ruling.place n (λ same. omega (arith, same, below, are.0)))
    ∙ waits_after places (ruling.place + 1) rulings n are.2 (omega (arith, below, are.0))

merged : (at : ℕ) (before : List ℕ) (first rest : Bool) → (first ≡ true → rest ≡ false)
    → (if rest then at ∷ (if first then at ∷ before else before) else (if first then at ∷ before else before)) ≡ (if first || rest then at ∷ before else before)
merged at before true rest out = ap (λ (test : Bool). if test then at ∷ at ∷ before else at ∷ before) (out refl)
merged at before false rest out = refl

pub first_only : (places : List Place) (ruling : Ruling) (rulings : List Ruling) (n : ℕ) → AreRulings places (ruling.place + 1) rulings
    → (ruling.place == n && is_later ruling.verdict) ≡ true → waits_in n rulings ≡ false
first_only places ruling rulings n are e = by (cases_eq ruling.place n)
  where
    by : (ruling.place ≡ n) ⊎ (ruling.place ≡ n → ⊥) → waits_in n rulings ≡ false
    by (inl same) = waits_after places (ruling.place + 1) rulings n are (omega (arith, same))
    by (inr out) = absurd (false≢true (sym (ap (λ (test : Bool). test && is_later ruling.verdict) (ne_eqb ruling.place n out)) ∙ e))

-- after all verdicts of an outcome
pub timed_ruled : (version : Version) (accept : AcceptFields) (at : ℕ) (laters : ℕ → List ℕ) (places : List Place) (least : ℕ) (rulings : List Ruling) → AreRulings places least rulings
    → AreTimed accept.at laters places → AreTimed accept.at (λ n. if waits_in n rulings then at ∷ laters n else laters n) (places_ruled version accept at places rulings)
timed_ruled version accept at laters places least [] are timed n place got held = timed n place got held
timed_ruled version accept at laters places least (ruling ∷ rulings) are timed n place got held =
    let stay = rulings_stay version accept at places ruling (ruling.place + 1) rulings (omega arith) are.2 in
    let now = timed_after version accept at laters places ruling are.1 timed in
    subst (λ (l : List ℕ). IsTimed accept.at l place)
    (merged at (laters n) (ruling.place == n && is_later ruling.verdict) (waits_in n rulings) (first_only places ruling rulings n are.2))
    (timed_ruled version accept at (laters_after at laters ruling) (places_after version accept at places ruling) (ruling.place + 1) rulings stay now n place got held)

-- a message as it is accepted
pub timed_new : (at : ℕ) (recipients : List Recipient) (n : ℕ) (place : Place) → slice_get (map (λ recipient. held_place 0 false at) recipients) n ≡ Some place → IsTimed at [] place
timed_new at [] n place got = absurd (none_some place got)
timed_new at (recipient ∷ recipients) zero place got = subst (IsTimed at []) (some_is (held_place 0 false at) place got) (record { count = omega arith; due = refl })
timed_new at (recipient ∷ recipients) (suc n) place got = timed_new at recipients n place got

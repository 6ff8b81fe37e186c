-- What an outcome's rulings leave of a message's places.
use Rattle.std.proofs.Common.{◌≡◌, ◌⊎◌, inl, inr, ℕ, zero, suc, ◌+◌, ◌<◌, ◌≤◌, ◌==◌, Bool, true, false, ◌&&◌, List, [], ◌∷◌, ◌++◌, length, slice_get, slice_set, Option, None, Some, is_some, unwrap_or, refl, sym, subst, ap, ◌∙◌, arith, length-set, if◌then◌else◌, Contains}
use Rattle.std.specs.Option.{option_map_or}
use Rattle.std.proofs.lemmas.Bool.{cond-true, cond-false, cases_eq, eq-eqb, ne_eqb, false≢true}
use Rattle.std.proofs.lemmas.List.Elements.{Contains-append_cases, Contains-push_cases, Contains-append_left, Contains-append_right, Contains-push}
use Rattle.relay_book.specs.declared.version.Version.{Version}
use Rattle.relay_book.specs.declared.change.Accept.{Accept as AcceptFields}
use Rattle.relay_book.specs.declared.change.Ruling.{Ruling}
use Rattle.relay_book.specs.declared.change.Verdict.{Verdict}
use Rattle.relay_book.specs.declared.message.Place.{Place}
use Rattle.relay_book.specs.declared.fate.Fate.{Fate}
use Rattle.relay_book.specs.declared.fate.Fate.TheVariants.{Waits, Late, Failed, Relayed, Removed}
use Rattle.relay_book.specs.declared.fate.Way.{Way}
use Rattle.relay_book.specs.declared.due_report.DueReport.{DueReport}
use Rattle.relay_book.specs.DueReport.{due_for, fate_of, way_of}
use Rattle.relay_book.specs.Queue.{AreRulings, holds_at, is_held, place_after, place_ruled, places_after, places_ruled}

-- elements of a list
pub in_none : {A : Type 0} (x : A) → Contains [] x → ⊥
in_none x h = omega (arith, h.1)

pub in_one : {A : Type 0} (x y : A) → Contains ([] ++ x ∷ []) y → x ≡ y
in_one x y h = by (Contains-push_cases [] x y h)
  where
    by : Contains [] y ⊎ (x ≡ y) → x ≡ y
    by (inl none) = absurd (in_none y none)
    by (inr same) = same

pub in_cons : {A : Type 0} (x y : A) (xs : List A) → Contains (x ∷ xs) y → (x ≡ y) ⊎ Contains xs y
in_cons x y xs h = by (Contains-append_cases (x ∷ []) xs y h)
  where
    by : Contains (x ∷ []) y ⊎ Contains xs y → (x ≡ y) ⊎ Contains xs y
    by (inl one) = inl (in_one x y one)
    by (inr more) = inr more

pub head_in : {A : Type 0} (x : A) (xs : List A) → Contains (x ∷ xs) x
head_in x xs = Contains-append_left (x ∷ []) xs x (Contains-push [] x)

pub tail_in : {A : Type 0} (x y : A) (xs : List A) → Contains xs y → Contains (x ∷ xs) y
tail_in x y xs h = Contains-append_right (x ∷ []) xs y h

pub none_some : {A : Type 0} (x : A) → None ≡ Some x → ⊥
none_some x e = false≢true (ap is_some e)

pub some_is : {A : Type 0} (x y : A) → Some x ≡ Some y → x ≡ y
some_is x y e = ap (λ o. unwrap_or o x) e

-- whether a place stays
abbrev pub stays : Option Way → Bool
stays None = true
stays (Some way) = false

-- how a place leaves by the rulings
abbrev pub way_among : ℕ → ℕ → List Ruling → ℕ → Option Way
way_among since at [] place = None
way_among since at (ruling ∷ rulings) place =
    if ruling.place == place then way_of (fate_of since at ruling.verdict) else way_among since at rulings place

set_here : (places : List Place) (n : ℕ) (place : Place) → holds_at places n ≡ true → holds_at (slice_set places n place) n ≡ is_held place
set_here [] n place h = absurd (false≢true h)
set_here (x ∷ xs) zero place h = refl
set_here (x ∷ xs) (suc n) place h = set_here xs n place h

set_other : (places : List Place) (n m : ℕ) (place : Place) → (n ≡ m → ⊥) → holds_at (slice_set places n place) m ≡ holds_at places m
set_other [] n m place out = refl
set_other (x ∷ xs) zero zero place out = absurd (out refl)
set_other (x ∷ xs) zero (suc m) place out = refl
set_other (x ∷ xs) (suc n) zero place out = refl
set_other (x ∷ xs) (suc n) (suc m) place out = set_other xs n m place (λ same. out (ap suc same))

held_after : (at : ℕ) (place : Place) (fate : Fate) (due : Option DueReport) → is_held (place_after at place fate due) ≡ stays (way_of fate)
held_after at place Waits due = refl
held_after at place Late due = refl
held_after at place Failed due = refl
held_after at place (Relayed dsn) due = refl
held_after at place (Removed withdrawal) due = refl

after_here : (version : Version) (accept : AcceptFields) (at : ℕ) (places : List Place) (ruling : Ruling) → holds_at places ruling.place ≡ true
    → holds_at (places_after version accept at places ruling) ruling.place ≡ stays (way_of (fate_of accept.at at ruling.verdict))
after_here version accept at places ruling holds = by (slice_get places ruling.place) holds
  where
    by : (o : Option Place) → option_map_or is_held o false ≡ true
        → holds_at (option_map_or (λ place. slice_set places ruling.place (place_ruled version accept at place ruling)) o places) ruling.place
        ≡ stays (way_of (fate_of accept.at at ruling.verdict))
    by None h = absurd (false≢true h)
    by (Some place) h =
        set_here places ruling.place (place_ruled version accept at place ruling) holds
        ∙ held_after at place (fate_of accept.at at ruling.verdict) (due_for version accept at place ruling)

after_other : (version : Version) (accept : AcceptFields) (at : ℕ) (places : List Place) (ruling : Ruling) (m : ℕ) → (ruling.place ≡ m → ⊥)
    → holds_at (places_after version accept at places ruling) m ≡ holds_at places m
after_other version accept at places ruling m out = by (slice_get places ruling.place)
  where
    by : (o : Option Place)
        → holds_at (option_map_or (λ place. slice_set places ruling.place (place_ruled version accept at place ruling)) o places) m
        ≡ holds_at places m
    by None = refl
    by (Some place) = set_other places ruling.place m (place_ruled version accept at place ruling) out

after_length : (version : Version) (accept : AcceptFields) (at : ℕ) (places : List Place) (ruling : Ruling) → length (places_after version accept at places ruling) ≡ length places
after_length version accept at places ruling = by (slice_get places ruling.place)
  where
    by : (o : Option Place)
        → length (option_map_or (λ place. slice_set places ruling.place (place_ruled version accept at place ruling)) o places)
        ≡ length places
    by None = refl
    by (Some place) = length-set places ruling.place (place_ruled version accept at place ruling)

pub ruled_length : (version : Version) (accept : AcceptFields) (at : ℕ) (places : List Place) (rulings : List Ruling) → length (places_ruled version accept at places rulings) ≡ length places
ruled_length version accept at places [] = refl
ruled_length version accept at places (ruling ∷ rulings) =
    ruled_length version accept at (places_after version accept at places ruling) rulings ∙ after_length version accept at places ruling

pub rulings_stay : (version : Version) (accept : AcceptFields) (at : ℕ) (places : List Place) (ruling : Ruling) (least : ℕ) (rulings : List Ruling)
    → ruling.place < least → AreRulings places least rulings → AreRulings (places_after version accept at places ruling) least rulings
rulings_stay version accept at places ruling least [] below are = tt
rulings_stay version accept at places ruling least (next ∷ rulings) below are =
    (are.0, after_other version accept at places ruling next.place (λ same. omega (arith, same, below, are.0)) ∙ are.1, rulings_stay version accept at places ruling (next.place + 1) rulings (omega (arith, below, are.0)) are.2)

none_below : (since at : ℕ) (places : List Place) (least : ℕ) (rulings : List Ruling) (place : ℕ)
    → AreRulings places least rulings → place < least → way_among since at rulings place ≡ None
none_below since at places least [] place are below = refl
none_below since at places least (ruling ∷ rulings) place are below =
    cond-false (ruling.place == place) _ _ (ne_eqb ruling.place place (λ same. omega (arith, same, below, are.0)))
    ∙ none_below since at places (ruling.place + 1) rulings place are.2 (omega (arith, below, are.0))

and_true : (b : Bool) → (b && true) ≡ b
and_true true = refl
and_true false = refl

ruled_step : (version : Version) (accept : AcceptFields) (at : ℕ) (places : List Place) (ruling : Ruling) (rest : Option Way) (place : ℕ)
    → holds_at places ruling.place ≡ true → (ruling.place ≡ place → rest ≡ None)
    → (holds_at (places_after version accept at places ruling) place && stays rest)
    ≡ (holds_at places place && stays (if ruling.place == place then way_of (fate_of accept.at at ruling.verdict) else rest))
ruled_step version accept at places ruling rest place holds none = by (cases_eq ruling.place place)
  where
    here : Option Way
    here = way_of (fate_of accept.at at ruling.verdict)

    by : (ruling.place ≡ place) ⊎ (ruling.place ≡ place → ⊥)
        → (holds_at (places_after version accept at places ruling) place && stays rest)
        ≡ (holds_at places place && stays (if ruling.place == place then way_of (fate_of accept.at at ruling.verdict) else rest))
    by (inl same) =
        let held = subst (λ n. holds_at places n ≡ true) same holds in
        let there = cond-true (ruling.place == place) here rest (eq-eqb ruling.place place same) in
        ap (λ o. holds_at (places_after version accept at places ruling) place && stays o) (none same)
        ∙ and_true (holds_at (places_after version accept at places ruling) place)
        ∙ subst (λ n. holds_at (places_after version accept at places ruling) n ≡ stays here) same (after_here version accept at places ruling holds)
        ∙ sym (λ i. held i && stays (there i))
    by (inr out) =
        let there = cond-false (ruling.place == place) here rest (ne_eqb ruling.place place out) in
        (λ i. after_other version accept at places ruling place out i && stays (sym there i))

-- after an outcome those places are held that were and didn't leave
pub ruled_holds : (version : Version) (accept : AcceptFields) (at : ℕ) (places : List Place) (least : ℕ) (rulings : List Ruling) (place : ℕ)
    → AreRulings places least rulings
    → holds_at (places_ruled version accept at places rulings) place ≡ (holds_at places place && stays (way_among accept.at at rulings place))
ruled_holds version accept at places least [] place are = sym (and_true (holds_at places place))
ruled_holds version accept at places least (ruling ∷ rulings) place are =
    let stay = rulings_stay version accept at places ruling (ruling.place + 1) rulings (omega arith) are.2 in
    ruled_holds version accept at (places_after version accept at places ruling) (ruling.place + 1) rulings place stay
    ∙ ruled_step version accept at places ruling (way_among accept.at at rulings place) place are.1
    (λ same. none_below accept.at at places (ruling.place + 1) rulings place are.2 (omega (arith, same)))

-- a way that the rulings give is one of theirs
pub way_ruled : (since at : ℕ) (rulings : List Ruling) (place : ℕ) (way : Way) → way_among since at rulings place ≡ Some way
    → (verdict : Verdict) × Contains rulings (record { place = place; verdict = verdict }) × (way_of (fate_of since at verdict) ≡ Some way)
way_ruled since at [] place way e = absurd (none_some way e)
way_ruled since at (ruling ∷ rulings) place way e = by (way_ruled since at rulings place way) (cases_eq ruling.place place)
  where
    here : Option Way
    here = way_of (fate_of since at ruling.verdict)

    rest : Option Way
    rest = way_among since at rulings place

    Found : List Ruling → Type 0
    Found given = (verdict : Verdict) × Contains given (record { place = place; verdict = verdict }) × (way_of (fate_of since at verdict) ≡ Some way)

    by : (way_among since at rulings place ≡ Some way → Found rulings) → (ruling.place ≡ place) ⊎ (ruling.place ≡ place → ⊥) → Found (ruling ∷ rulings)
    by more (inl same) =
        let there = cond-true (ruling.place == place) here rest (eq-eqb ruling.place place same) in
        (ruling.verdict, subst (λ n. Contains (ruling ∷ rulings) (record { place = n; verdict = ruling.verdict })) same (head_in ruling rulings), sym there ∙ e)
    by more (inr out) =
        let there = cond-false (ruling.place == place) here rest (ne_eqb ruling.place place out) in
        let found = more (sym there ∙ e) in
        (found.0, tail_in ruling (record { place = place; verdict = found.0 }) rulings found.1, found.2)

-- what a ruling of an outcome is
pub record Ruled (since at : ℕ) (places : List Place) (least : ℕ) (rulings : List Ruling) (place : ℕ) (verdict : Verdict) : Type 0 where
  pub way : way_among since at rulings place ≡ way_of (fate_of since at verdict)
  pub least_le : least ≤ place
  pub holds : holds_at places place ≡ true

pub ruled_way : (since at : ℕ) (places : List Place) (least : ℕ) (rulings : List Ruling) (place : ℕ) (verdict : Verdict)
    → AreRulings places least rulings → Contains rulings (record { place = place; verdict = verdict }) → Ruled since at places least rulings place verdict
ruled_way since at places least [] place verdict are h = absurd (in_none (record { place = place; verdict = verdict }) h)
ruled_way since at places least (ruling ∷ rulings) place verdict are h =
    by (ruled_way since at places (ruling.place + 1) rulings place verdict are.2) (in_cons ruling (record { place = place; verdict = verdict }) rulings h)
  where
    by : (Contains rulings (record { place = place; verdict = verdict }) → Ruled since at places (ruling.place + 1) rulings place verdict)
        → (ruling ≡ record { place = place; verdict = verdict }) ⊎ Contains rulings (record { place = place; verdict = verdict })
        → Ruled since at places least (ruling ∷ rulings) place verdict
    by more (inl e) =
        let same : ruling.place ≡ place = ap (λ r. r.place) e in
        record {
          way = cond-true (ruling.place == place) _ _ (eq-eqb ruling.place place same) ∙ ap (λ r. way_of (fate_of since at r.verdict)) e;
          least_le = omega (arith, same, are.0);
          holds = subst (λ n. holds_at places n ≡ true) same are.1;
        }
    by more (inr h) =
        let rest = more h in
        let bound = rest.least_le in
        record {
          way = cond-false (ruling.place == place) _ _ (ne_eqb ruling.place place (λ same. omega (arith, same, bound))) ∙ rest.way;
          least_le = omega (arith, bound, are.0);
          holds = rest.holds;
        }

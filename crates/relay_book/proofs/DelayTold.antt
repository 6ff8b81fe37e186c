-- Which places an outcome tells of as delayed.
use Rattle.std.proofs.Common.{◌≡◌, ◌⊎◌, inl, inr, ℕ, ◌+◌, ◌==◌, nat_le, Bool, true, false, not, ◌&&◌, ◌||◌, if◌then◌else◌, List, [], ◌∷◌, slice_get, Option, None, Some, MatchOption, refl, sym, subst, ap, ◌∙◌, option_and_then}
use Rattle.std.specs.List.{list_any}
use Rattle.std.specs.Option.{option_map_or}
use Rattle.std.proofs.lemmas.Bool.{and_parts, cases_Bool, cases_eq, eqb-true, ne_eqb, false≢true}
use Rattle.std.proofs.lemmas.List.Folds.{list_any-append}
use Rattle.relay_envelope.specs.declared.envelope.Recipient.{Recipient}
use Rattle.relay_book.specs.declared.version.Version.{Version}
use Rattle.relay_book.specs.declared.due_report.DueReport.{DueReport}
use Rattle.relay_book.specs.declared.due_report.DueReport.TheVariants.{OfDelay}
use Rattle.relay_book.specs.declared.change.Ruling.{Ruling}
use Rattle.relay_book.specs.declared.change.Verdict.{Verdict}
use Rattle.relay_book.specs.declared.change.Verdict.TheVariants.{Taken, Refused, Later, CantSend, NoRoute, Withdrawn}
use Rattle.relay_book.specs.declared.message.Message.{Message}
use Rattle.relay_book.specs.declared.message.Place.{Place}
use Rattle.relay_book.specs.declared.fate.Fate.{Fate}
use Rattle.relay_book.specs.declared.fate.Fate.TheVariants.{Waits, Late, Failed}
use Rattle.relay_book.specs.declared.fate.PlaceStep.{PlaceStep}
use Rattle.relay_book.specs.DelayLaw.{DelayIsTold, delays_with, is_delay, is_delayed, tells_of}
use Rattle.relay_book.specs.DueMoment.{is_later, waits_in}
use Rattle.relay_book.specs.DueReport.{due_report_of, lateness, patience, reports_delay, wants_delay, way_of}
use Rattle.relay_book.specs.Marks.{place_step, place_steps_by, step_of}
use Rattle.relay_book.specs.Queue.{AreRulings, FitsMessage, holds_at, is_held}
use Rattle.relay_book.specs.Record.{is_null}
use Rattle.relay_book.proofs.DelayLaws.{fold_delays}

-- the place was told of before, or isn't there
abbrev was_told : List Place → ℕ → Bool
was_told places n = option_map_or (λ place. place.delayed) (slice_get places n) true

-- what is told of a place that was put off
told_now : Bool → Bool → Bool → Bool → Bool → Bool → Bool
told_now past late knows wants null before = not past && ((knows && (late && (not null && wants))) && not before)

-- the same, as a step is told
abbrev told_as : Bool → Bool → Bool → Bool → Bool → Option PlaceStep
told_as late knows wants null before =
    step_of None (if null then None else (if late then (if knows && wants && not before then Some OfDelay else None) else None))

abbrev tells_one : Option PlaceStep → Bool
tells_one None = false
tells_one (Some one) = is_delayed one

told_late : (knows wants null before : Bool) → tells_one (told_as true knows wants null before) ≡ told_now false true knows wants null before
unfolding told_now
told_late true true true true = refl
told_late true true true false = refl
told_late true true false true = refl
told_late true true false false = refl
told_late true false true true = refl
told_late true false true false = refl
told_late true false false true = refl
told_late true false false false = refl
told_late false true true true = refl
told_late false true true false = refl
told_late false true false true = refl
told_late false true false false = refl
told_late false false true true = refl
told_late false false true false = refl
told_late false false false true = refl
told_late false false false false = refl

told_early : (knows wants null before : Bool) → tells_one (told_as false knows wants null before) ≡ told_now false false knows wants null before
unfolding told_now
told_early true wants true before = refl
told_early true wants false before = refl
told_early false wants true before = refl
told_early false wants false before = refl

none_told : (past late knows null before : Bool) → false ≡ told_now past late knows false null before
unfolding told_now
none_told true late knows null before = refl
none_told false true true true before = refl
none_told false true true false before = refl
none_told false false true null before = refl
none_told false late false null before = refl

gone_told : (past late knows wants null : Bool) → false ≡ told_now past late knows wants null true
unfolding told_now
gone_told true late knows wants null = refl
gone_told false true true true true = refl
gone_told false true true true false = refl
gone_told false true true false true = refl
gone_told false true true false false = refl
gone_told false true false wants null = refl
gone_told false false true wants null = refl
gone_told false false false wants null = refl

module _ (version : Version) (message : Message) (at : ℕ) where
  -- what becomes of a place that was put off
  abbrev fate : Bool → Bool → Fate
  fate past late = if past then Failed else (if late then Late else Waits)

  abbrev due_there : Bool → Bool → Place → Option Recipient → Option DueReport
  due_there past late place o =
      option_and_then (λ recipient. due_report_of version message.accept.envelope.reverse_path recipient.notify place (fate past late)) o

  abbrev wants_there : Option Recipient → Bool
  wants_there o = option_map_or (λ recipient. wants_delay recipient.notify) o false

  told_there : (past late : Bool) (place : Place) (o : Option Recipient)
      → tells_one (step_of (way_of (fate past late)) (due_there past late place o))
      ≡ told_now past late (reports_delay version) (wants_there o) (is_null message.accept.envelope.reverse_path) place.delayed
  unfolding told_now
  told_there true late place o = refl
  told_there false true place None = none_told false true (reports_delay version) (is_null message.accept.envelope.reverse_path) place.delayed
  told_there false true place (Some recipient) =
      told_late (reports_delay version) (wants_delay recipient.notify) (is_null message.accept.envelope.reverse_path) place.delayed
  told_there false false place None = none_told false false (reports_delay version) (is_null message.accept.envelope.reverse_path) place.delayed
  told_there false false place (Some recipient) =
      told_early (reports_delay version) (wants_delay recipient.notify) (is_null message.accept.envelope.reverse_path) place.delayed

  told_placed : (past late : Bool) (place : Option Place) (o : Option Recipient)
      → tells_one (step_of (way_of (fate past late)) (option_and_then (λ place. due_there past late place o) place))
      ≡ told_now past late (reports_delay version) (wants_there o) (is_null message.accept.envelope.reverse_path) (option_map_or (λ place. place.delayed) place true)
  unfolding told_now
  told_placed true late None o = refl
  told_placed true late (Some place) o = refl
  told_placed false true None o = gone_told false true (reports_delay version) (wants_there o) (is_null message.accept.envelope.reverse_path)
  told_placed false false None o = gone_told false false (reports_delay version) (wants_there o) (is_null message.accept.envelope.reverse_path)
  told_placed false true (Some place) o = told_there false true place o
  told_placed false false (Some place) o = told_there false false place o

  -- what an outcome that puts a place off tells of it
  abbrev tells_later : ℕ → Bool
  tells_later n = not (nat_le (message.accept.at + patience) at) && (is_delay version message.accept at n && not (was_told message.places n))

  told_later : (n : ℕ) → tells_one (place_step version message at (record { place = n; verdict = Later })) ≡ tells_later n
  unfolding told_now
  told_later n =
      told_placed (nat_le (message.accept.at + patience) at) (nat_le (message.accept.at + lateness) at) (slice_get message.places n)
      (slice_get message.accept.envelope.recipients n)

  told_by_verdict : (n : ℕ) (verdict : Verdict) → tells_one (place_step version message at (record { place = n; verdict = verdict })) ≡ (is_later verdict && tells_later n)
  told_by_verdict n (Taken dsn) = refl
  told_by_verdict n (Refused code text) = refl
  told_by_verdict n Later = told_later n
  told_by_verdict n CantSend = refl
  told_by_verdict n NoRoute = refl
  told_by_verdict n (Withdrawn withdrawal) = refl

  or_false : (b : Bool) → (b || false) ≡ b
  or_false true = refl
  or_false false = refl

  one_told : (ruling : Ruling) (n : ℕ) (o : Option PlaceStep) → tells_of n (option_map_or (λ one. (ruling.place, one) ∷ []) o []) ≡ (ruling.place == n && tells_one o)
  one_told ruling n None = by (ruling.place == n)
    where
      by : (b : Bool) → false ≡ (b && false)
      by true = refl
      by false = refl
  one_told ruling n (Some one) = or_false (ruling.place == n && is_delayed one)

  regroup : (here later tells : Bool) → (here && (later && tells)) ≡ ((here && later) && tells)
  regroup true later tells = refl
  regroup false later tells = refl

  gather : (first rest tells : Bool) → ((first && tells) || (rest && tells)) ≡ ((first || rest) && tells)
  gather true true true = refl
  gather true true false = refl
  gather true false true = refl
  gather true false false = refl
  gather false rest tells = refl

  ruling_told : (ruling : Ruling) (n : ℕ)
      → tells_of n (option_map_or (λ one. (ruling.place, one) ∷ []) (place_step version message at ruling) [])
      ≡ ((ruling.place == n && is_later ruling.verdict) && tells_later n)
  ruling_told ruling n =
      one_told ruling n (place_step version message at ruling)
      ∙ ap (λ (b : Bool). ruling.place == n && b) (told_by_verdict ruling.place ruling.verdict)
      ∙ by (cases_eq ruling.place n)
    where
      by : (ruling.place ≡ n) ⊎ (ruling.place ≡ n → ⊥)
          → (ruling.place == n && (is_later ruling.verdict && tells_later ruling.place)) ≡ ((ruling.place == n && is_later ruling.verdict) && tells_later n)
      by (inl same) =
          ap (λ m. ruling.place == n && (is_later ruling.verdict && tells_later m)) same
          ∙ regroup (ruling.place == n) (is_later ruling.verdict) (tells_later n)
      by (inr out) =
          ap (λ (b : Bool). b && (is_later ruling.verdict && tells_later ruling.place)) (ne_eqb ruling.place n out)
          ∙ sym (ap (λ (b : Bool). (b && is_later ruling.verdict) && tells_later n) (ne_eqb ruling.place n out))

  pub all_told : (n : ℕ) (rulings : List Ruling) → tells_of n (place_steps_by version message at rulings) ≡ (waits_in n rulings && tells_later n)
  all_told n [] = refl
  all_told n (ruling ∷ rulings) =
      list_any-append (λ one. one.0 == n && is_delayed one.1) (option_map_or (λ one. (ruling.place, one) ∷ []) (place_step version message at ruling) [])
      (place_steps_by version message at rulings)
      ∙ (λ i. ruling_told ruling n i || all_told n rulings i)
      ∙ gather (ruling.place == n && is_later ruling.verdict) (waits_in n rulings) (tells_later n)

-- a place that is put off was held
waits_held : (places : List Place) (least : ℕ) (rulings : List Ruling) (n : ℕ) → AreRulings places least rulings → waits_in n rulings ≡ true → holds_at places n ≡ true
waits_held places least [] n are waits = absurd (false≢true waits)
waits_held places least (ruling ∷ rulings) n are waits =
    by (waits_held places (ruling.place + 1) rulings n are.2) (cases_Bool (ruling.place == n && is_later ruling.verdict))
  where
    by : (waits_in n rulings ≡ true → holds_at places n ≡ true) → ((ruling.place == n && is_later ruling.verdict) ≡ true) ⊎ ((ruling.place == n && is_later ruling.verdict) ≡ false) → holds_at places n ≡ true
    by more (inl here) =
        let same = eqb-true ruling.place n (and_parts (ruling.place == n) (is_later ruling.verdict) here).0 in
        subst (λ m. holds_at places m ≡ true) same are.1
    by more (inr other) = more (sym (ap (λ (b : Bool). b || waits_in n rulings) other) ∙ waits)

pub delay_is_told : DelayIsTold
delay_is_told changes fitting outcome message fits found place =
    ap (λ (o : Option Message). tells_of place (option_map_or (λ m. place_steps_by outcome.version m outcome.at outcome.rulings) o [])) found
    ∙ all_told outcome.version message outcome.at place outcome.rulings
    ∙ by (cases_Bool (waits_in place outcome.rulings))
  where
    its : FitsMessage message outcome
    its = subst (λ (o : Option Message). MatchOption o ⊥ (λ m. FitsMessage m outcome)) found fits.1

    was : holds_at message.places place ≡ true → was_told message.places place ≡ list_any (delays_with message.accept outcome.message place) changes
    was holds = there (slice_get message.places place) refl holds
      where
        there : (o : Option Place) → slice_get message.places place ≡ o → option_map_or is_held o false ≡ true
            → option_map_or (λ p. p.delayed) o true ≡ list_any (delays_with message.accept outcome.message place) changes
        there None is held = absurd (false≢true held)
        there (Some old) is held = fold_delays changes fitting outcome.message place message old found is held

    by : (waits_in place outcome.rulings ≡ true) ⊎ (waits_in place outcome.rulings ≡ false)
        → (waits_in place outcome.rulings && (not (nat_le (message.accept.at + patience) outcome.at)
        && (is_delay outcome.version message.accept outcome.at place && not (was_told message.places place))))
        ≡ (waits_in place outcome.rulings && (not (nat_le (message.accept.at + patience) outcome.at)
        && (is_delay outcome.version message.accept outcome.at place && not (list_any (delays_with message.accept outcome.message place) changes))))
    by (inl waits) =
        ap (λ (before : Bool). waits_in place outcome.rulings && (not (nat_le (message.accept.at + patience) outcome.at)
        && (is_delay outcome.version message.accept outcome.at place && not before)))
        (was (waits_held message.places 0 outcome.rulings place its.rulings waits))
    by (inr none) =
        ap (λ (b : Bool). b && (not (nat_le (message.accept.at + patience) outcome.at)
        && (is_delay outcome.version message.accept outcome.at place && not (was_told message.places place)))) none
        ∙ sym (ap (λ (b : Bool). b && (not (nat_le (message.accept.at + patience) outcome.at)
        && (is_delay outcome.version message.accept outcome.at place && not (list_any (delays_with message.accept outcome.message place) changes)))) none)

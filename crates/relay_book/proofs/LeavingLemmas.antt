-- What leaves by a change, place by place.
use Rattle.std.proofs.Common.{◌≡◌, ◌⊎◌, inl, inr, ℕ, Bool, true, false, if◌then◌else◌, append_assoc, List, [], ◌∷◌, ◌++◌, Option, None, Some, MatchOption, refl, sym, subst, ap, ◌∙◌, arith, Contains}
use Rattle.std.specs.Option.{option_map_or}
use Rattle.std.proofs.lemmas.List.Elements.{Contains-append_cases, Contains-append_left, Contains-append_right}
use Rattle.relay_book.specs.declared.change.Accept.{Accept as AcceptFields}
use Rattle.relay_book.specs.declared.change.Outcome.{Outcome as OutcomeFields}
use Rattle.relay_book.specs.declared.change.Ruling.{Ruling}
use Rattle.relay_book.specs.declared.change.Verdict.{Verdict}
use Rattle.relay_book.specs.declared.change.Change.{Change}
use Rattle.relay_book.specs.declared.change.Change.TheVariants.{Accept, Outcome}
use Rattle.relay_book.specs.declared.message.Message.{Message}
use Rattle.relay_book.specs.declared.fate.Way.{Way}
use Rattle.relay_book.specs.declared.fate.PlaceStep.{PlaceStep}
use Rattle.relay_book.specs.declared.fate.PlaceStep.TheVariants as made
use Rattle.relay_book.specs.declared.version.Version.{Version}
use Rattle.relay_book.specs.declared.due_report.DueReport.{DueReport}
use Rattle.relay_book.specs.DueReport.{fate_of, way_of}
use Rattle.relay_book.specs.Queue.{FitsMessage, due_report_at, empty_queue, message_of, queue_of, tells_delay}
use Rattle.relay_book.specs.Marks.{LeavesAt, LeavingIsListed, QueueLeaves, StepsLeave, if_left, leaving, leaving_by, left_among, place_step, place_steps_by, step_of, message_at, ruled_message}
use Rattle.relay_book.proofs.PlaceLemmas.{in_none, in_cons, head_in, tail_in, none_some, some_is}
use Rattle.relay_book.proofs.ChangeLemmas.{Back, change_last, joined, last, message_other}
use Rattle.relay_book.proofs.MarkLaws.{fits_before, stand}

pub queue_leaves : QueueLeaves
queue_leaves changes (Accept accept) fitting fits = refl
queue_leaves changes (Outcome outcome) fitting fits = by (message_of (queue_of changes).messages outcome.message) refl fits.1
  where
    by : (o : Option Message) → message_of (queue_of changes).messages outcome.message ≡ o → MatchOption o ⊥ (λ message. FitsMessage message outcome)
        → option_map_or (λ message. leaving_by message.accept outcome.at outcome.rulings) o [] ≡ leaving changes (Outcome outcome)
    by None is fits = absurd fits
    by (Some message) is fits =
        sym (ap (λ (o : Option AcceptFields). option_map_or (λ accept. leaving_by accept outcome.at outcome.rulings) o [])
        ((stand changes fitting).knows.accept outcome.message message is))

-- how one ruling lists its place
abbrev listed_by : AcceptFields → ℕ → Ruling → List (ℕ × Way)
listed_by accept at ruling = option_map_or (λ way. (ruling.place, way) ∷ []) (way_of (fate_of accept.at at ruling.verdict)) []

-- a ruling by which its place leaves lists it
listed : (accept : AcceptFields) (at : ℕ) (rulings : List Ruling) (place : ℕ) (verdict : Verdict) (way : Way)
    → Contains rulings (record { place = place; verdict = verdict }) → way_of (fate_of accept.at at verdict) ≡ Some way
    → Contains {X = ℕ × Way} (leaving_by accept at rulings) (place, way)
listed accept at [] place verdict way there leaves = absurd (in_none (record { place = place; verdict = verdict }) there)
listed accept at (ruling ∷ rulings) place verdict way there leaves =
    by (listed accept at rulings place verdict way) (in_cons ruling (record { place = place; verdict = verdict }) rulings there)
  where
    by : (Contains rulings (record { place = place; verdict = verdict }) → way_of (fate_of accept.at at verdict) ≡ Some way → Contains {X = ℕ × Way} (leaving_by accept at rulings) (place, way))
        → (ruling ≡ record { place = place; verdict = verdict }) ⊎ Contains rulings (record { place = place; verdict = verdict })
        → Contains {X = ℕ × Way} (listed_by accept at ruling ++ leaving_by accept at rulings) (place, way)
    by more (inl same) =
        Contains-append_left {X = ℕ × Way} (listed_by accept at ruling) (leaving_by accept at rulings) (place, way)
        (subst (λ (r : Ruling). Contains {X = ℕ × Way} (listed_by accept at r) (place, way)) (sym same)
        (subst (λ (o : Option Way). Contains {X = ℕ × Way} (option_map_or (λ way. (place, way) ∷ []) o []) (place, way)) (sym leaves)
        (head_in {A = ℕ × Way} (place, way) [])))
    by more (inr rest) = Contains-append_right {X = ℕ × Way} (listed_by accept at ruling) (leaving_by accept at rulings) (place, way) (more rest leaves)

-- the ruling by which a listed place leaves
record IsListed (accept : AcceptFields) (at : ℕ) (rulings : List Ruling) (place : ℕ) (way : Way) : Type 0 where
  verdict : Verdict
  ruling : Contains rulings (record { place = place; verdict = verdict })
  leaves : way_of (fate_of accept.at at verdict) ≡ Some way

is_listed : (accept : AcceptFields) (at : ℕ) (rulings : List Ruling) (place : ℕ) (way : Way)
    → Contains {X = ℕ × Way} (leaving_by accept at rulings) (place, way) → IsListed accept at rulings place way
is_listed accept at [] place way there = absurd (in_none {A = ℕ × Way} (place, way) there)
is_listed accept at (ruling ∷ rulings) place way there =
    by (is_listed accept at rulings place way) (Contains-append_cases {X = ℕ × Way} (listed_by accept at ruling) (leaving_by accept at rulings) (place, way) there)
  where
    one : (o : Option Way) → way_of (fate_of accept.at at ruling.verdict) ≡ o → Contains {X = ℕ × Way} (option_map_or (λ way. (ruling.place, way) ∷ []) o []) (place, way)
        → IsListed accept at (ruling ∷ rulings) place way
    one None is there = absurd (in_none {A = ℕ × Way} (place, way) there)
    one (Some its) is there = same (in_cons {A = ℕ × Way} (ruling.place, its) (place, way) [] there)
      where
        same : ◌≡◌ {A = ℕ × Way} (ruling.place, its) (place, way) ⊎ Contains {X = ℕ × Way} [] (place, way) → IsListed accept at (ruling ∷ rulings) place way
        same (inr none) = absurd (in_none {A = ℕ × Way} (place, way) none)
        same (inl e) = record {
          verdict = ruling.verdict;
          ruling = subst (λ n. Contains (ruling ∷ rulings) (record { place = n; verdict = ruling.verdict })) (ap (λ (m : ℕ × Way). m.0) e) (head_in ruling rulings);
          leaves = is ∙ ap (λ (m : ℕ × Way). Some m.1) e;
        }

    by : (Contains {X = ℕ × Way} (leaving_by accept at rulings) (place, way) → IsListed accept at rulings place way)
        → Contains {X = ℕ × Way} (listed_by accept at ruling) (place, way) ⊎ Contains {X = ℕ × Way} (leaving_by accept at rulings) (place, way)
        → IsListed accept at (ruling ∷ rulings) place way
    by more (inl here) = one (way_of (fate_of accept.at at ruling.verdict)) refl here
    by more (inr rest) =
        let found = more rest in
        record {
          verdict = found.verdict;
          ruling = tail_in ruling (record { place = place; verdict = found.verdict }) rulings found.ruling;
          leaves = found.leaves;
        }

pub leaving_is_listed : LeavingIsListed
leaving_is_listed changes change fitting number place way = (there, back change change_is)
  where
    before : Back changes
    before = (stand changes (fits_before empty_queue changes change fitting)).knows.back

    -- the message of the last change, as it was before
    was : (outcome : OutcomeFields) → change ≡ Outcome outcome → message_at (joined changes change) outcome.message ≡ message_at changes outcome.message
    was outcome is =
        let came = (stand (joined changes change) fitting).knows.back (last changes) outcome (change_last changes change ∙ ap (λ (c : Change). Some c) is) in
        message_other changes change outcome.message before (λ same. omega (arith, came, same))

    there : LeavesAt (joined changes change) (last changes) number place way → (ruled_message change ≡ Some number) × Contains {X = ℕ × Way} (leaving changes change) (place, way)
    there leaves =
        let is : change ≡ Outcome leaves.outcome = some_is change (Outcome leaves.outcome) (sym (change_last changes change) ∙ leaves.change) in
        let message : message_at changes leaves.outcome.message ≡ Some leaves.accept = sym (was leaves.outcome is) ∙ ap (message_at (joined changes change)) leaves.its_message ∙ leaves.message in
        let list = ap (λ (o : Option AcceptFields). option_map_or (λ accept. leaving_by accept leaves.outcome.at leaves.outcome.rulings) o []) message in
        subst (λ (c : Change). (ruled_message c ≡ Some number) × Contains {X = ℕ × Way} (leaving changes c) (place, way)) (sym is) (
          ap (λ n. Some n) leaves.its_message,
          subst (λ (l : List (ℕ × Way)). Contains {X = ℕ × Way} l (place, way)) (sym list)
              (listed leaves.accept leaves.outcome.at leaves.outcome.rulings place leaves.verdict way leaves.ruling leaves.leaves),
        )

    change_is : change ≡ change
    change_is = refl

    back : (c : Change) → change ≡ c → (ruled_message c ≡ Some number) × Contains {X = ℕ × Way} (leaving changes c) (place, way)
        → LeavesAt (joined changes change) (last changes) number place way
    back (Accept accept) is listed = absurd (none_some number listed.0)
    back (Outcome outcome) is listed = by (message_at changes outcome.message) refl listed.1
      where
        its : outcome.message ≡ number
        its = some_is outcome.message number listed.0

        by : (o : Option AcceptFields) → message_at changes outcome.message ≡ o
            → Contains {X = ℕ × Way} (option_map_or (λ accept. leaving_by accept outcome.at outcome.rulings) o []) (place, way)
            → LeavesAt (joined changes change) (last changes) number place way
        by None e there = absurd (in_none {A = ℕ × Way} (place, way) there)
        by (Some accept) e there =
            let found = is_listed accept outcome.at outcome.rulings place way there in
            record {
              accept = accept;
              outcome = outcome;
              verdict = found.verdict;
              message = ap (message_at (joined changes change)) (sym its) ∙ was outcome is ∙ e;
              change = change_last changes change ∙ ap (λ (c : Change). Some c) is;
              its_message = its;
              ruling = found.ruling;
              leaves = found.leaves;
            }

-- what a change makes of places, and what leaves by it
joined_left : (steps more : List (ℕ × PlaceStep)) → left_among (steps ++ more) ≡ left_among steps ++ left_among more
joined_left [] more = refl
joined_left (one ∷ steps) more =
    ap (λ (l : List (ℕ × Way)). if_left one.0 one.1 ++ l) (joined_left steps more) ∙ sym (append_assoc (if_left one.0 one.1) (left_among steps) (left_among more))

one_left : (place : ℕ) (way : Option Way) (due : Option DueReport)
    → left_among (option_map_or (λ one. (place, one) ∷ []) (step_of way due) []) ≡ option_map_or (λ way. (place, way) ∷ []) way []
one_left place (Some way) due = refl
one_left place None due = by (tells_delay due)
  where
    by : (delays : Bool) → left_among (option_map_or (λ one. (place, one) ∷ []) (if delays then Some made.Delayed else None) []) ≡ []
    by true = refl
    by false = refl

steps_by_leave : (version : Version) (message : Message) (at : ℕ) (rulings : List Ruling)
    → left_among (place_steps_by version message at rulings) ≡ leaving_by message.accept at rulings
steps_by_leave version message at [] = refl
steps_by_leave version message at (ruling ∷ rulings) =
    joined_left (option_map_or (λ one. (ruling.place, one) ∷ []) (place_step version message at ruling) []) (place_steps_by version message at rulings)
    ∙ (λ i.
    one_left ruling.place (way_of (fate_of message.accept.at at ruling.verdict)) (due_report_at version message at ruling) i
    ++ steps_by_leave version message at rulings i)

pub steps_leave : StepsLeave
steps_leave queue (Accept accept) = refl
steps_leave queue (Outcome outcome) = by (message_of queue.messages outcome.message)
  where
    by : (o : Option Message)
        → left_among (option_map_or (λ message. place_steps_by outcome.version message outcome.at outcome.rulings) o [])
        ≡ option_map_or (λ message. leaving_by message.accept outcome.at outcome.rulings) o []
    by None = refl
    by (Some message) = steps_by_leave outcome.version message outcome.at outcome.rulings

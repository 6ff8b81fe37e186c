-- The outcome of an attempt fits the queue.
use Rattle.std.proofs.Common.{◌≡◌, ◌≢◌, ℕ, suc, ◌+◌, ◌<◌, ◌≤◌, ◌^◌, Bool, true, false, List, [], ◌∷◌, length, Option, Some, MatchOption, refl, sym, ap, ◌∙◌, subst, arith}
use Rattle.std.specs.List.{AllByRecursion}
use Rattle.std.proofs.lemmas.Bool.{false≢true}
use Rattle.relay_routes.specs.Routes.{RouteTable}
use Rattle.relay_envelope.specs.HostName.{IsHostName}
use Rattle.relay_envelope.specs.declared.envelope.Envelope.{Envelope}
use Rattle.relay_book.specs.declared.change.Outcome.{Outcome}
use Rattle.relay_book.specs.declared.change.Verdict.{Verdict}
use Rattle.relay_book.specs.declared.change.Verdict.TheVariants.{Taken, Refused, Later, CantSend, NoRoute, Withdrawn}
use Rattle.relay_book.specs.declared.version.Version.TheVariants.{WithDelay}
use Rattle.relay_book.specs.declared.message.Message.{Message}
use Rattle.relay_book.specs.declared.message.Place.{Place}
use Rattle.relay_book.specs.Queue.{AllWithoutHop, AreRulings, Queue, is_without_hop, message_of}
use Rattle.relay_book.specs.Record.{AreOfVersion, IsRuling, IsVerdict, MayBeHop, is_of_version}
use Rattle.relay_attempts.specs.AddedOutcome.{MayCome, RulesOn}
use Rattle.relay_course.specs.Course.{IsCourse}
use Rattle.relay_course.proofs.Theorems.{verdict_for_each_place, verdicts_are_of_a_hop, verdicts_may_be_stored}
use Rattle.relay_attempts.specs.declared.runs.Run.{Run}
use Rattle.relay_attempts.specs.Outcomes.{outcome_of, rulings_of}
use Rattle.relay_attempts.specs.Runs.{AreHeld, RunsFor}
use Rattle.relay_attempts.proofs.OutcomeLemmas.{held_are_few, holds_within}

are_rulings : (places : List Place) (least : ℕ) (numbers : List ℕ) (verdicts : List Verdict)
    → AreHeld places least numbers → AreRulings places least (rulings_of numbers verdicts)
are_rulings places least [] verdicts held = tt
are_rulings places least (n ∷ numbers) [] held = tt
are_rulings places least (n ∷ numbers) (verdict ∷ verdicts) held =
    (held.0, held.1, are_rulings places (n + 1) numbers verdicts held.2)

rulings_length : (numbers : List ℕ) (verdicts : List Verdict) → length verdicts ≡ length numbers
    → length (rulings_of numbers verdicts) ≡ length numbers
rulings_length [] verdicts same = refl
rulings_length (n ∷ numbers) [] same = let long : 0 ≡ suc (length numbers) = same in omega (arith, long)
rulings_length (n ∷ numbers) (verdict ∷ verdicts) same =
    let long : suc (length verdicts) ≡ suc (length numbers) = same in
    ap suc (rulings_length numbers verdicts (omega (arith, long)))

may_be_stored : (places : List Place) (least : ℕ) (numbers : List ℕ) (verdicts : List Verdict)
    → length places ≤ 100 → AreHeld places least numbers → AllByRecursion IsVerdict verdicts
    → AllByRecursion IsRuling (rulings_of numbers verdicts)
may_be_stored places least [] verdicts few held stored = tt
may_be_stored places least (n ∷ numbers) [] few held stored = tt
may_be_stored places least (n ∷ numbers) (verdict ∷ verdicts) few held stored =
    let within = holds_within places n held.1 in (
      record { place = omega (arith, within, few); verdict = stored.0 },
      may_be_stored places (n + 1) numbers verdicts few held.2 stored.1,
    )

abbrev AreOfAHop : List Verdict → Type 0
AreOfAHop verdicts = AllByRecursion (λ verdict. is_without_hop verdict ≡ false) verdicts

-- verdicts of a hop aren't without one
not_without_hop : (numbers : List ℕ) (verdicts : List Verdict) → numbers ≢ [] → length verdicts ≡ length numbers
    → AreOfAHop verdicts → AllWithoutHop (rulings_of numbers verdicts) → ⊥
not_without_hop [] verdicts some same hops none = some refl
not_without_hop (n ∷ numbers) [] some same hops none =
    let long : 0 ≡ suc (length numbers) = same in omega (arith, long)
not_without_hop (n ∷ numbers) (verdict ∷ verdicts) some same hops none = false≢true (sym hops.0 ∙ none.0)

not_withdrawn : (verdict : Verdict) → is_without_hop verdict ≡ false → is_of_version WithDelay verdict ≡ true
not_withdrawn (Taken dsn) hop = refl
not_withdrawn (Refused code text) hop = refl
not_withdrawn Later hop = refl
not_withdrawn CantSend hop = refl
not_withdrawn NoRoute hop = refl
not_withdrawn (Withdrawn withdrawal) hop = absurd (false≢true (sym hop))

-- nor are they the postmaster's
are_of_version : (numbers : List ℕ) (verdicts : List Verdict) → AreOfAHop verdicts → AreOfVersion WithDelay (rulings_of numbers verdicts)
are_of_version [] verdicts hops = tt
are_of_version (n ∷ numbers) [] hops = tt
are_of_version (n ∷ numbers) (verdict ∷ verdicts) hops =
    (not_withdrawn verdict hops.0, are_of_version numbers verdicts hops.1)

some_length : (numbers : List ℕ) → numbers ≢ [] → 1 ≤ length numbers
some_length [] some = absurd (some refl)
some_length (n ∷ numbers) some = omega arith

name_is_some : (hop : List ℕ) → IsHostName hop → hop ≡ [] → ⊥
name_is_some hop name none = let some = name.some_octet in let e = ap length none in omega (arith, some, e)

name_is_hop : (hop : List ℕ) → IsHostName hop → MayBeHop hop
name_is_hop [] name = tt
name_is_hop (octet ∷ rest) name = name

-- the outcome of an attempt whose course has these verdicts fits the queue
pub ended_may_come : (host : List ℕ) (table : RouteTable) (queue : Queue) (run : Run) → RunsFor host table queue run
    → (now : ℕ) (verdicts : List Verdict) (outcome : Outcome)
    → outcome ≡ outcome_of run.message now run.hop (rulings_of run.places.items verdicts)
    → run.message < 2 ^ 64 → IsHostName run.hop
    → ((message : Message) → message_of queue.messages run.message ≡ Some message → length message.places ≤ 100)
    → (envelope : Envelope) (text input : List ℕ) (broken : Bool) (output : List ℕ)
    → IsCourse host envelope text run.places.items input broken output (Some verdicts) → MayCome queue outcome
ended_may_come host table queue run runs now verdicts outcome is fits name small envelope text input broken output course =
    subst (MayCome queue) (sym is) (record {
      version = refl;
      number = fits;
      message =
          subst (λ (o : Option Message). MatchOption o ⊥ (RulesOn one)) (sym runs.found) (record {
            rulings = are_rulings runs.message.places 0 numbers verdicts runs.held;
            hop = (
              (λ none. absurd (name_is_some run.hop name none)),
              (λ none. absurd (not_without_hop numbers verdicts runs.some same hops none)),
            );
          });
      hop = name_is_hop run.hop name;
      some = let some = some_length numbers runs.some in omega (arith, long, some);
      within =
          let few = small runs.message runs.found in
          let held = held_are_few runs.message.places 0 numbers runs.held in
          omega (arith, long, held, few);
      rulings =
          may_be_stored runs.message.places 0 numbers verdicts (small runs.message runs.found) runs.held
          (verdicts_may_be_stored host envelope text numbers input broken output verdicts course);
      verdicts = are_of_version numbers verdicts hops;
    })
  where
    numbers : List ℕ
    numbers = run.places.items

    one : Outcome
    one = outcome_of run.message now run.hop (rulings_of run.places.items verdicts)

    same : length verdicts ≡ length run.places.items
    same = verdict_for_each_place host envelope text run.places.items input broken output verdicts course

    long : length (rulings_of run.places.items verdicts) ≡ length run.places.items
    long = rulings_length run.places.items verdicts same

    hops : AreOfAHop verdicts
    hops = verdicts_are_of_a_hop host envelope text run.places.items input broken output verdicts course

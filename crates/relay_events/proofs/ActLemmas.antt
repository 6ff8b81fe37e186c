-- How an event is answered, by what it did of itself and which nodes have stopped.
use Rattle.std.proofs.Common.{◌≡◌, ◌<◌, ℕ, List, [], ◌∷◌, ◌++◌, length, Ok, Err, Result, refl, sym, subst, ap, ◌∙◌, arith}
use Rattle.relay_events.specs.declared.act.Act.{Act}
use Rattle.relay_events.specs.declared.act.Act.TheVariants as act
use Rattle.relay_events.specs.declared.fault.PairFault.{PairFault}
use Rattle.relay_events.specs.declared.seen.Seen.{Seen}
use Rattle.relay_events.specs.declared.seen.Seen.TheVariants.{Stopped}
use Rattle.relay_events.specs.Act.{did_of, stops_of}
use Rattle.relay_events.specs.Step.{IsSeen, Refuses, Shows}

refused : (why : PairFault) (told : List ℕ) → length told ≡ 0 → IsSeen (Refuses why) told (Err why)
refused why [] none = refl
refused why (node ∷ nodes) none = let never : ⊥ = omega (arith, none) in absurd never

refused_stopped : (why : PairFault) (stopped told : List ℕ) → stopped ≡ told → 0 < length stopped
    → IsSeen (Refuses why) told (Ok (Stopped stopped))
refused_stopped why stopped [] is some = let never : ⊥ = omega (arith, ap length is, some) in absurd never
refused_stopped why stopped (node ∷ nodes) is some = ap (λ l. Ok (Stopped l)) is

module _ (its : Act) (stopped told : List ℕ) (all : stopped ≡ stops_of (did_of its) ++ told) where
  all_as : (one : Act) → its ≡ one → stopped ≡ stops_of (did_of one) ++ told
  all_as one is = all ∙ ap (λ (a : Act). stops_of (did_of a) ++ told) is

  seen_as : (one : Act) (answer : Result Seen PairFault) → its ≡ one → IsSeen (did_of one) told answer
      → IsSeen (did_of its) told answer
  seen_as one answer is seen = subst (λ (a : Act). IsSeen (did_of a) told answer) (sym is) seen

  pub answers_shown : (own shown : Seen) → its ≡ act.Shows own → IsSeen (Shows own) stopped (Ok shown)
      → IsSeen (did_of its) told (Ok shown)
  answers_shown own shown is seen =
      seen_as (act.Shows own) (Ok shown) is (subst (λ l. IsSeen (Shows own) l (Ok shown)) (all_as (act.Shows own) is) seen)

  pub answers_refused : (why : PairFault) → its ≡ act.Refuses why → length stopped ≡ 0
      → IsSeen (did_of its) told (Err why)
  answers_refused why is none =
      seen_as (act.Refuses why) (Err why) is (refused why told (sym (ap length (all_as (act.Refuses why) is)) ∙ none))

  pub answers_stopped : (why : PairFault) → its ≡ act.Refuses why → 0 < length stopped
      → IsSeen (did_of its) told (Ok (Stopped stopped))
  answers_stopped why is some =
      seen_as (act.Refuses why) (Ok (Stopped stopped)) is (refused_stopped why stopped told (all_as (act.Refuses why) is) some)

  pub answers_stop : (node : ℕ) → its ≡ act.Stops node → IsSeen (did_of its) told (Ok (Stopped stopped))
  answers_stop node is = seen_as (act.Stops node) (Ok (Stopped stopped)) is (ap (λ l. Ok (Stopped l)) (all_as (act.Stops node) is))

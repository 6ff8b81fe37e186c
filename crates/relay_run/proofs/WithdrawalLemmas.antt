-- The outcomes of messages whose places are withdrawn, one group after the other.
use Rattle.std.proofs.Common.{◌≡◌, ◌≤◌, ◌-◌, ℕ, List, [], ◌++◌, length, map, take, drop, Result, length-append, length-drop, refl, sym, ◌∙◌, ap, subst, arith}
use Rattle.std.proofs.lemmas.List.{drop-map, length-map}
use Rattle.std.proofs.lemmas.Slice.{between_to_end}
use Rattle.relay_book.specs.declared.change.Withdrawal.{Withdrawal}
use Rattle.relay_control.specs.declared.named.Named.{Named}
use Rattle.relay_disk.specs.Device.{DiskWords}
use Rattle.relay_loop.specs.Relay.{RelayState}
use Rattle.relay_loop.specs.Withdrawing.{MessagePlaces, RefusesToWithdrawAll, WithdrawsAll, choice_of}
use Rattle.relay_loop.specs.declared.withdrawing.Chosen.{Chosen}
use Rattle.relay_loop.specs.declared.withdrawing.Withdrawn.{Withdrawn as Group}
use Rattle.relay_records.specs.declared.fault.NodeFault.{NodeFault}
use Rattle.relay_records.specs.declared.fault.NodeFault.TheVariants as fault
use Rattle.relay_run.specs.Withdrawing.{FailsAmong, HaveMore, HaveNone, HaveOutcomes, outcome_of, places_of}
use Rattle.relay_run.specs.declared.withdrawing.Outcome.{Outcome}

-- the places that are left for a group
pub rest_is : (chosen : List Chosen) (names : List Named) (done : ℕ) → map choice_of chosen ≡ map places_of names
    → map choice_of (drop done chosen) ≡ map places_of (drop done names)
rest_is chosen names done same = sym (drop-map choice_of done chosen) ∙ ap (drop done) same ∙ drop-map places_of done names

-- as many are chosen as are named
pub as_many : (chosen : List Chosen) (names : List Named) → map choice_of chosen ≡ map places_of names → length chosen ≡ length names
as_many chosen names same = sym (length-map chosen choice_of) ∙ ap length same ∙ length-map names places_of

-- the chosen ones that are left, as a part of a slice
pub rest_of : (slice chosen : List Chosen) (done count : ℕ) → slice ≡ chosen → done ≡ count
    → take (length slice - done) (drop done slice) ≡ drop count chosen
rest_of slice chosen done count is same =
    between_to_end slice done (length slice) (omega arith) ∙ ap (λ (list : List Chosen). drop done list) is ∙ ap (λ (n : ℕ). drop n chosen) same

-- no more messages have outcomes than are named
pub within_still : (chosen rest : List Chosen) (names : List Named) (outcomes later : List Outcome) (results : List (Result ℕ NodeFault))
    → map choice_of chosen ≡ map places_of names → rest ≡ drop (length outcomes) chosen → length results ≤ length rest
    → length outcomes ≤ length names → later ≡ outcomes ++ map outcome_of results → length later ≤ length names
within_still chosen rest names outcomes later results same is few within later_is =
    let many = as_many chosen names same in
    let left = ap (λ (list : List Chosen). length list) is ∙ length-drop (length outcomes) chosen in
    let all = ap (λ (list : List Outcome). length list) later_is ∙ length-append outcomes (map outcome_of results) in
    let each = length-map results outcome_of in
    omega (arith, many, left, all, each, few, within)

module _ {D : Type 0} (honest : Type 0) (words : DiskWords D) (at : ℕ) (withdrawal : Withdrawal) where
  -- none has an outcome yet
  pub have_none : (names : List Named) (outcomes : List Outcome) (relay : RelayState D) → outcomes ≡ []
      → HaveOutcomes honest words at withdrawal names outcomes relay relay
  have_none names outcomes relay none =
      subst (λ (l : List Outcome). HaveOutcomes honest words at withdrawal names l relay relay) (sym none) (HaveNone names relay)

  -- a group more has outcomes
  pub goes_on : (chosen rest : List Chosen) (names : List Named) (outcomes later : List Outcome) (group : Group) (old between new : RelayState D)
      → map choice_of chosen ≡ map places_of names → rest ≡ drop (length outcomes) chosen → HaveOutcomes honest words at withdrawal names outcomes old between
      → WithdrawsAll honest words at withdrawal (map choice_of rest) between new group
      → later ≡ outcomes ++ map outcome_of group.results.items
      → HaveOutcomes honest words at withdrawal names later old new
  goes_on chosen rest names outcomes later group old between new same is have withdraws later_is =
      subst (λ (l : List Outcome). HaveOutcomes honest words at withdrawal names l old new) (sym later_is)
      (HaveMore names outcomes (map outcome_of group.results.items) old between new have (record {
        group = group;
        withdraws =
            subst (λ (l : List MessagePlaces). WithdrawsAll honest words at withdrawal l between new group)
            (ap (map choice_of) is ∙ rest_is chosen names (length outcomes) same) withdraws;
        outcomes_are = refl;
      }))

  -- the device failed in the next group
  pub fails_next : (chosen rest : List Chosen) (names : List Named) (outcomes : List Outcome) (cause : NodeFault) (old between new : RelayState D)
      → map choice_of chosen ≡ map places_of names → rest ≡ drop (length outcomes) chosen → HaveOutcomes honest words at withdrawal names outcomes old between
      → cause ≡ fault.Stopped → RefusesToWithdrawAll honest words at withdrawal (map choice_of rest) between new cause
      → FailsAmong honest words at withdrawal names old new
  fails_next chosen rest names outcomes cause old between new same is have stopped fails = record {
    outcomes = outcomes;
    between = between;
    have = have;
    fails =
        subst (λ (l : List MessagePlaces). RefusesToWithdrawAll honest words at withdrawal l between new fault.Stopped)
        (ap (map choice_of) is ∙ rest_is chosen names (length outcomes) same)
        (subst (λ (it : NodeFault). RefusesToWithdrawAll honest words at withdrawal (map choice_of rest) between new it) stopped fails);
  }

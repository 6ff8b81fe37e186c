-- Each place that was transferred was accepted by its next hop.
use Rattle.std.proofs.Common.{◌≡◌, inl, inr, ℕ, Bool, List, Some, refl, sym, subst, ap, ◌∙◌}
use Rattle.std.specs.Prelude.{slice_get}
use Rattle.std.proofs.lemmas.Option.{same_Some}
use Rattle.relay_disk.specs.Device.{DiskWords}
use Rattle.relay_book.specs.declared.change.Change.{Change}
use Rattle.relay_book.specs.declared.change.Change.TheVariants as change
use Rattle.relay_book.specs.declared.change.Outcome.{Outcome}
use Rattle.relay_book.specs.declared.change.Verdict.{Verdict}
use Rattle.relay_book.specs.declared.change.Verdict.TheVariants.{Taken, Refused, Later, CantSend, NoRoute, Withdrawn}
use Rattle.relay_book.specs.declared.change.Withdrawal.{Withdrawal}
use Rattle.relay_book.specs.declared.fate.Way.TheVariants.{ByTransfer}
use Rattle.relay_book.specs.Marks.{LeavesAt, change_at}
use Rattle.relay_attempts.specs.Outcomes.{rulings_of}
use Rattle.relay_course.specs.VerdictTable.{all_later}
use Rattle.std.specs.List.{Contains}
use Rattle.relay_world.specs.GivingUp.{Withdrawing}
use Rattle.relay_world.specs.declared.attempt.Fate.TheVariants.{Lost, Replied}
use Rattle.relay_world.specs.declared.attempt.Attempt.{Attempt}
use Rattle.relay_world.specs.declared.link.Link.{Link}
use Rattle.relay_world.specs.Bound.{HasFate, IsBound, PassesOn, StandsAt}
use Rattle.relay_world.specs.Children.{IsAttempt}
use Rattle.relay_world.specs.HopLinks.{AreLinkedToHops, IsLinkedToHop, LeadsTo}
use Rattle.relay_world.specs.Custody.{HasCause}
use Rattle.relay_world.specs.Once.{IsOutcomeOf, IsTriedOnce}
use Rattle.relay_world.specs.Passing.{IsAcceptedByHop, Rules}
use Rattle.relay_world.specs.Transfers.{HasPassedOn, IsHeldNext, TransferredIsAccepted}
use Rattle.relay_world.specs.World.{Host, World}
use Rattle.relay_world.proofs.AddedLemmas.{lost_takes_none}
use Rattle.relay_world.proofs.CauseLemmas.{has_cause}
use Rattle.relay_world.proofs.ChildrenLemmas.{passes_of}
use Rattle.relay_world.proofs.ClaimLemmas.{known_attempt}
use Rattle.relay_world.proofs.PassingLemmas.{taken_is_accepted}
use Rattle.relay_world.proofs.ReopenOnceLemmas.{told_later}

-- only who was Taken is transferred
taken_by : (accepted at : ℕ) (verdict : Verdict) → HasCause accepted at ByTransfer verdict → (dsn : Bool) × (verdict ≡ Taken dsn)
taken_by accepted at (Taken dsn) cause = (dsn, refl)
taken_by accepted at (Refused code text) cause = absurd cause
taken_by accepted at Later cause = absurd cause
taken_by accepted at CantSend cause = absurd cause
taken_by accepted at NoRoute cause = absurd cause
taken_by accepted at (Withdrawn withdrawal) cause = absurd cause

-- replies ended an attempt of the node, with the change of this number as its outcome
record IsEndedBy {D : Type 0} (world : World D) (node number : ℕ) : Type 0 where
  pub at : ℕ
  pub attempt : Attempt
  pub is_there : slice_get world.attempts at ≡ Some attempt
  pub its_node : attempt.node ≡ node
  pub replied : attempt.fate ≡ Replied number

same_outcome : (one other : Outcome) → Some (change.Outcome one) ≡ Some (change.Outcome other) → one ≡ other
same_outcome one other is = cc

module _ {D : Type 0} (honest : Type 0) (words : DiskWords D) (world : World D) (lists : List (List Change))
    (bound : IsBound honest words world lists) {asked : List Withdrawing} (once : IsTriedOnce world lists asked) (linked : AreLinkedToHops world) (node : ℕ) (host : Host D)
    (changes : List Change)
    (stands : StandsAt world lists node host changes) (at message place : ℕ)
    (leaves : LeavesAt changes at message place ByTransfer) where
  taken : (dsn : Bool) × (leaves.verdict ≡ Taken dsn)
  taken = taken_by leaves.accept.at leaves.outcome.at leaves.verdict
      (has_cause leaves.accept.at leaves.outcome.at ByTransfer leaves.verdict leaves.leaves)

  rules : Rules changes at place (Taken taken.0)
  rules = record {
    outcome = leaves.outcome;
    found = leaves.change;
    ruling = subst (λ v. Contains leaves.outcome.rulings (record { place = place; verdict = v })) taken.1 leaves.ruling;
  }

  ruled : Contains leaves.outcome.rulings (record { place = place; verdict = Taken taken.0 })
  ruled = subst (λ v. Contains leaves.outcome.rulings (record { place = place; verdict = v })) taken.1 leaves.ruling

  -- an attempt whose link was lost has taken no place
  module _ (ended : IsOutcomeOf world node at) (lost : ended.attempt.fate ≡ Lost at) where
    its : (h : Host D) × (l : List Change) × (w : Link) × IsAttempt world lists h l w ended.attempt
    its = known_attempt honest words world lists bound ended.at ended.attempt ended.is_there

    its_passes : PassesOn its.0 its.1 its.2 ended.attempt
    its_passes = passes_of honest words world lists bound its.0 its.1 its.2 ended.attempt its.3

    its_fate : HasFate its.0 its.1 its.2 ended.attempt its_passes.accept its_passes.output its_passes.told its_passes.verdicts
        (Lost at)
    its_fate = subst (λ f. HasFate its.0 its.1 its.2 ended.attempt its_passes.accept its_passes.output its_passes.told
        its_passes.verdicts f) lost its_passes.fate

    all_are : its_fate.1.0 ≡ all_later ended.attempt.places.items
    all_are = told_later ended.attempt.places.items its_passes.told its_passes.course.runs.rest _ its_passes.verdicts its_fate.1.0
        its_fate.0 its_fate.1.1 its_passes.course.runs.concludes

    same_list : its.1 ≡ changes
    same_list = same_Some its.1 changes
        (sym its.3.stands.list_at ∙ ap (λ n. slice_get lists n) ended.its_node ∙ stands.list_at)

    rulings_are : leaves.outcome.rulings ≡ rulings_of ended.attempt.places.items (all_later ended.attempt.places.items)
    rulings_are =
        ap (λ (o : Outcome). o.rulings)
        (same_outcome leaves.outcome _
        (sym leaves.change ∙ ap (λ l. change_at l at) (sym same_list) ∙ its_fate.1.2.found))
        ∙ ap (λ v. rulings_of ended.attempt.places.items v) all_are

    none_lost : ⊥
    none_lost = lost_takes_none ended.attempt.places.items place taken.0
        (subst (λ r. Contains r (record { place = place; verdict = Taken taken.0 })) rulings_are ruled)

  not_unrouted : NoRoute ≡ Taken taken.0 → ⊥
  not_unrouted same = cc

  not_withdrawn : (withdrawal : Withdrawal) → Withdrawn withdrawal ≡ Taken taken.0 → ⊥
  not_withdrawn withdrawal same = cc

  taker : IsEndedBy world node at
  taker = elim (once.outcomes node at host changes leaves.outcome stands leaves.change) [
    | inl ended ↦ elim ended.ended [
      | inl replied ↦ record {
        at = ended.at;
        attempt = ended.attempt;
        is_there = ended.is_there;
        its_node = ended.its_node;
        replied = replied;
      }
      | inr lost ↦ absurd (none_lost ended lost)
    ]
    | inr (inl none) ↦ absurd (not_unrouted (sym (none.each place leaves.verdict leaves.ruling).0 ∙ taken.1))
    | inr (inr withdrawn) ↦
        let his = withdrawn.each place leaves.verdict leaves.ruling in
        absurd (not_withdrawn his.0 (sym his.1 ∙ taken.1))
  ]

  abbrev link : Link
  link = (known_attempt honest words world lists bound taker.at taker.attempt taker.is_there).2

  attempt_is : IsAttempt world lists host changes link taker.attempt
  attempt_is = record {
    at = taker.at;
    is_there = taker.is_there;
    stands = subst (λ n. StandsAt world lists n host changes) (sym taker.its_node) stands;
    its_link = (known_attempt honest words world lists bound taker.at taker.attempt taker.is_there).3.its_link;
  }

  its_message : taker.attempt.message ≡ message
  its_message =
      let passes : PassesOn host changes link taker.attempt =
      passes_of honest words world lists bound host changes link taker.attempt attempt_is in
      let fate : HasFate host changes link taker.attempt passes.accept passes.output passes.told passes.verdicts (Replied at) =
      subst (λ f. HasFate host changes link taker.attempt passes.accept passes.output passes.told passes.verdicts f) taker.replied
      passes.fate in
      ap (λ (o : Outcome). o.message) (same_outcome _ leaves.outcome (sym fate.1.2.found ∙ leaves.change)) ∙ leaves.its_message

  accepted : IsAcceptedByHop world lists host changes link taker.attempt place
  accepted = taken_is_accepted honest words world lists bound host changes link taker.attempt attempt_is place taken.0
      (record { number = at; replied = taker.replied; rules = rules })

  next_holds : (next : ℕ) (at_next : Host D) (others : List Change) → StandsAt world lists next at_next others
      → at_next.config.host ≡ taker.attempt.hop → IsHeldNext world host changes link taker.attempt next others place
  next_holds next at_next others there name =
      let is_linked : IsLinkedToHop world taker.attempt = linked taker.at taker.attempt taker.is_there in
      let same : is_linked.link ≡ link = same_Some is_linked.link link (sym is_linked.its_link ∙ attempt_is.its_link) in
      let leads : LeadsTo world taker.attempt link next =
      subst (λ l. LeadsTo world taker.attempt l next) same (is_linked.to_node next at_next there.host_at name) in
      let one = accepted.child leads.end others leads.serves
      (ap (λ n. slice_get lists n) leads.its_node ∙ there.list_at) in
      record { leads = leads; child = one.0; holds = one.1 }

  pub passed_on : HasPassedOn world lists node host changes message place
  passed_on = record {
    attempt = taker.attempt;
    link = link;
    is = attempt_is;
    its_node = taker.its_node;
    its_message = its_message;
    goes = once.hops taker.at taker.attempt taker.is_there;
    answered = accepted.answered;
    reads = accepted.reads;
    accepts = accepted.accepts;
    next_holds = next_holds;
  }

pub transferred_is_accepted : {D : Type 0} (honest : Type 0) (words : DiskWords D) → TransferredIsAccepted honest words
transferred_is_accepted honest words world lists asked bound once linked node host changes stands message place transferred =
    passed_on honest words world lists bound once linked node host changes stands transferred.0 message place transferred.1

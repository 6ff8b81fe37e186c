-- A place that has left has left by the course of an attempt, since it has no hop, or since the postmaster asked for it.
use Rattle.std.proofs.Common.{◌≡◌, ◌⊎◌, inl, inr, ℕ, false, List, Some, sym, subst, ap, ◌∙◌}
use Rattle.std.specs.Prelude.{take}
use Rattle.std.proofs.lemmas.Bool.{false≢true}
use Rattle.std.specs.List.{Contains}
use Rattle.relay_disk.specs.Device.{DiskWords}
use Rattle.relay_book.specs.declared.change.Change.{Change}
use Rattle.relay_book.specs.declared.change.Change.TheVariants as change
use Rattle.relay_book.specs.declared.change.Outcome.{Outcome}
use Rattle.relay_attempts.specs.Outcomes.{rulings_of}
use Rattle.relay_book.specs.declared.change.Ruling.{Ruling}
use Rattle.relay_book.specs.declared.change.Verdict.{Verdict}
use Rattle.relay_book.specs.declared.change.Verdict.TheVariants.{Taken, Refused, Later, CantSend, NoRoute, Withdrawn}
use Rattle.relay_book.specs.declared.change.Withdrawal.{Withdrawal}
use Rattle.relay_book.specs.Queue.{is_without_hop}
use Rattle.relay_book.specs.declared.fate.Way.{Way}
use Rattle.relay_book.specs.declared.fate.Way.TheVariants.{ByEnd, ByWithdrawal}
use Rattle.relay_book.specs.Marks.{LeavesAt, message_at}
use Rattle.relay_course.specs.Course.{IsCourse}
use Rattle.relay_course.proofs.Theorems.{verdicts_are_of_a_hop}
use Rattle.relay_world.specs.GivingUp.{IsAsked, Withdrawing}
use Rattle.relay_world.specs.declared.attempt.Fate.TheVariants.{Lost, Replied}
use Rattle.relay_world.specs.declared.link.Link.{Link}
use Rattle.relay_world.specs.Bound.{HasFate, IsBound, IsItsOutcome, PassesOn, StandsAt}
use Rattle.relay_world.specs.Causes.{GaveVerdict, HadNoHop, LeavingIsCaused, WasWithdrawn}
use Rattle.relay_world.specs.Children.{IsAttempt}
use Rattle.relay_world.specs.Custody.{HasCause}
use Rattle.relay_world.specs.Once.{IsOutcomeOf, IsTriedOnce}
use Rattle.relay_world.specs.World.{Host, World}
use Rattle.relay_world.proofs.AmongLemmas.{all_of, found_in, ruled_by}
use Rattle.relay_world.proofs.ChildrenLemmas.{passes_of}
use Rattle.relay_world.proofs.ClaimLemmas.{known_attempt}

same_outcome : (one other : Outcome) → Some (change.Outcome one) ≡ Some (change.Outcome other) → one ≡ other
same_outcome one other is = cc

module _ {D : Type 0} (honest : Type 0) (words : DiskWords D) (world : World D) (lists : List (List Change))
    (bound : IsBound honest words world lists) {asked : List Withdrawing} (once : IsTriedOnce world lists asked) (node : ℕ) (host : Host D) (changes : List Change)
    (stands : StandsAt world lists node host changes) (at message place : ℕ) (way : Way)
    (leaves : LeavesAt changes at message place way) where
  abbrev Gave : Type 0
  Gave = GaveVerdict world lists node host changes at message place leaves.verdict

  module _ (ended : IsOutcomeOf world node at) where
    abbrev link : Link
    link = (known_attempt honest words world lists bound ended.at ended.attempt ended.is_there).2

    is : IsAttempt world lists host changes link ended.attempt
    is = record {
      at = ended.at;
      is_there = ended.is_there;
      stands = subst (λ n. StandsAt world lists n host changes) (sym ended.its_node) stands;
      its_link = (known_attempt honest words world lists bound ended.at ended.attempt ended.is_there).3.its_link;
    }

    passes : PassesOn host changes link ended.attempt
    passes = passes_of honest words world lists bound host changes link ended.attempt is

    by : (all : List Verdict) → passes.verdicts ≡ Some all → IsItsOutcome ended.attempt all changes at → Gave
    by all verdicts its =
        let same : leaves.outcome ≡ _ = same_outcome leaves.outcome _ (sym leaves.change ∙ its.found) in
        let message_is : ended.attempt.message ≡ message = ap (λ (o : Outcome). o.message) (sym same) ∙ leaves.its_message in
        record {
          attempt = ended.attempt;
          link = link;
          is = is;
          its_node = ended.its_node;
          its_message = message_is;
          ended = ended.ended;
          accept = passes.accept;
          accepted = ap (λ m. message_at changes m) (sym message_is) ∙ passes.accepted;
          told = passes.told;
          output = passes.output;
          verdicts = all;
          course = subst (λ v. IsCourse host.config.host passes.accept.envelope passes.accept.stored_text
              ended.attempt.places.items (take link.down_read link.down) passes.told passes.output v) verdicts passes.course;
          gives = subst (λ (o : Outcome). Contains o.rulings (record { place = place; verdict = leaves.verdict })) same
              leaves.ruling;
        }

    gave : Gave
    gave = elim ended.ended [
      | inl replied ↦
          let fate : HasFate host changes link ended.attempt passes.accept passes.output passes.told passes.verdicts (Replied at) =
          subst (λ f. HasFate host changes link ended.attempt passes.accept passes.output passes.told passes.verdicts f) replied
          passes.fate in
          by fate.1.0 fate.1.1 fate.1.2
      | inr lost ↦
          let fate : HasFate host changes link ended.attempt passes.accept passes.output passes.told passes.verdicts (Lost at) =
          subst (λ f. HasFate host changes link ended.attempt passes.accept passes.output passes.told passes.verdicts f) lost
          passes.fate in
          by fate.1.0 fate.1.1 fate.1.2
    ]

  pub caused : Gave ⊎ (HadNoHop host changes message place leaves.verdict ⊎ WasWithdrawn asked node message place leaves.verdict)
  caused = elim (once.outcomes node at host changes leaves.outcome stands leaves.change) [
    | inl ended ↦ inl (gave ended)
    | inr (inl none) ↦
        let each = none.each place leaves.verdict leaves.ruling in
        inr (inl (record {
          is = each.0;
          accept = none.accept;
          accepted = ap (λ m. message_at changes m) (sym leaves.its_message) ∙ none.accepted;
          none = each.1;
        }))
    | inr (inr withdrawn) ↦
        let his = withdrawn.each place leaves.verdict leaves.ruling in
        inr (inr (
          his.0,
          his.1,
          subst (λ m. IsAsked asked node m place his.0) leaves.its_message his.2,
        ))
  ]

pub leaving_is_caused : {D : Type 0} (honest : Type 0) (words : DiskWords D) → LeavingIsCaused honest words
leaving_is_caused honest words world lists asked bound once node host changes stands at message place way leaves =
    caused honest words world lists bound once node host changes stands at message place way leaves

-- a place that ended wasn't withdrawn
pub ended_for : {A B : Type 0} (asked : List Withdrawing) (node message place accepted at : ℕ) (verdict : Verdict)
    → A ⊎ (B ⊎ WasWithdrawn asked node message place verdict) → HasCause accepted at ByEnd verdict → A ⊎ B
ended_for asked node message place accepted at verdict (inl gave) cause = inl gave
ended_for asked node message place accepted at verdict (inr (inl none)) cause = inr none
ended_for asked node message place accepted at verdict (inr (inr withdrawn)) cause =
    absurd (subst (λ v. HasCause accepted at ByEnd v) withdrawn.1 cause)

-- a place that leaves by withdrawal has that verdict
withdrawn_by : (accepted at : ℕ) (withdrawal : Withdrawal) (verdict : Verdict)
    → HasCause accepted at (ByWithdrawal withdrawal) verdict → verdict ≡ Withdrawn withdrawal
withdrawn_by accepted at withdrawal (Taken dsn) cause = absurd cause
withdrawn_by accepted at withdrawal (Refused code text) cause = absurd cause
withdrawn_by accepted at withdrawal Later cause = absurd cause
withdrawn_by accepted at withdrawal CantSend cause = absurd cause
withdrawn_by accepted at withdrawal NoRoute cause = absurd cause
withdrawn_by accepted at withdrawal (Withdrawn other) cause = ap Withdrawn cause

-- which no attempt gives
gives_none : {D : Type 0} (world : World D) (lists : List (List Change)) (node : ℕ) (host : Host D) (changes : List Change)
    (at message place : ℕ) (verdict : Verdict) (withdrawal : Withdrawal) → verdict ≡ Withdrawn withdrawal
    → GaveVerdict world lists node host changes at message place verdict → ⊥
gives_none world lists node host changes at message place verdict withdrawal is gave =
    let ruling : Ruling = record { place = place; verdict = verdict } in
    let there = found_in (rulings_of gave.attempt.places.items gave.verdicts) ruling gave.gives in
    let of = ruled_by gave.attempt.places.items gave.verdicts there.0 ruling there.1 in
    let hop : is_without_hop verdict ≡ false =
    all_of (λ v. is_without_hop v ≡ false) gave.verdicts there.0 verdict
    (verdicts_are_of_a_hop host.config.host gave.accept.envelope gave.accept.stored_text gave.attempt.places.items
    (take gave.link.down_read gave.link.down) gave.told gave.output gave.verdicts gave.course) of.1 in
    false≢true (sym hop ∙ ap is_without_hop is)

-- so the postmaster has asked for it
pub asked_for : {D : Type 0} (world : World D) (lists : List (List Change)) (asked : List Withdrawing) (node : ℕ)
    (host : Host D) (changes : List Change) (at message place accepted left : ℕ) (verdict : Verdict)
    (withdrawal : Withdrawal)
    → GaveVerdict world lists node host changes at message place verdict
    ⊎ (HadNoHop host changes message place verdict ⊎ WasWithdrawn asked node message place verdict)
    → HasCause accepted left (ByWithdrawal withdrawal) verdict → IsAsked asked node message place withdrawal
asked_for world lists asked node host changes at message place accepted left verdict withdrawal (inl gave) cause =
    absurd (gives_none world lists node host changes at message place verdict withdrawal
    (withdrawn_by accepted left withdrawal verdict cause) gave)
asked_for world lists asked node host changes at message place accepted left verdict withdrawal (inr (inl none)) cause =
    let his : Withdrawn withdrawal ≡ NoRoute = sym (withdrawn_by accepted left withdrawal verdict cause) ∙ none.is in
    let none_is : ⊥ = cc in absurd none_is
asked_for world lists asked node host changes at message place accepted left verdict withdrawal (inr (inr withdrawn)) cause =
    let his : Withdrawn withdrawn.0 ≡ Withdrawn withdrawal =
    sym withdrawn.1 ∙ withdrawn_by accepted left withdrawal verdict cause in
    subst (λ w. IsAsked asked node message place w) (let same : withdrawn.0 ≡ withdrawal = cc in same) withdrawn.2

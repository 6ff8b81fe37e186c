-- A node that records an outcome of no attempt isn't bound by the invariant any more.
use Rattle.std.proofs.Common.{◌≡◌, inl, inr, ℕ, suc, List, [], ◌∷◌, ◌++◌, length, Some, sym, subst, ap, ◌∙◌, arith}
use Rattle.std.specs.Prelude.{slice_get}
use Rattle.std.proofs.lemmas.Option.{same_Some, slice_get_within}
use Rattle.relay_disk.specs.Device.{DiskWords}
use Rattle.relay_book.specs.declared.change.Change.{Change}
use Rattle.relay_book.specs.declared.change.Verdict.{Verdict}
use Rattle.relay_book.specs.Marks.{change_at}
use Rattle.relay_attempts.specs.AddedOutcome.{AddsOutcome, reported_as}
use Rattle.relay_world.specs.GivingUp.{Withdrawing}
use Rattle.relay_world.specs.declared.attempt.Fate.TheVariants.{Lost, Replied}
use Rattle.relay_world.specs.declared.link.Link.{Link}
use Rattle.relay_world.specs.Bound.{HasFate, HostKeeps, IsBound, IsItsOutcome, NodeKeeps, PassesOn, StandsAt}
use Rattle.relay_world.specs.Children.{IsAttempt}
use Rattle.relay_world.specs.Invented.{Invents, InventingBreaks}
use Rattle.relay_world.specs.Once.{IsOutcomeOf, IsTriedOnce}
use Rattle.relay_world.specs.Steps.{without_note}
use Rattle.relay_world.specs.World.{Host, Up, World}
use Rattle.relay_world.proofs.AddedLemmas.{noted_octets}
use Rattle.relay_world.proofs.ChildrenLemmas.{passes_of}
use Rattle.relay_world.proofs.ClaimLemmas.{known_attempt, there_too}
use Rattle.relay_world.proofs.FrameLemmas.{get_last}
use Rattle.relay_world.proofs.GrowLemmas.{one_more}
use Rattle.relay_world.proofs.OpenLemmas.{list_there, node_kept}
use Rattle.relay_report.specs.Report.{reporter_of}

module _ {D : Type 0} (honest : Type 0) (words : DiskWords D) (old new : World D) (lists later : List (List Change))
    (node change_now : ℕ) (bound : IsBound honest words old lists) (invents : Invents honest words old new node change_now)
    (now : IsBound honest words new later) {asked : List Withdrawing} (once : IsTriedOnce new later asked) where
  listed : (list : List Change) × (slice_get lists node ≡ Some list)
  listed = list_there old.hosts lists node invents.host bound.even invents.host_at

  kept : HostKeeps honest words invents.host listed.0
  kept = bound.hosts node invents.host listed.0 (record { host_at = invents.host_at; list_at = listed.1 })

  its_node : NodeKeeps honest words invents.host.config invents.before listed.0
  its_node = node_kept honest words invents.host listed.0 invents.before kept invents.up

  adds : AddsOutcome honest words (reporter_of invents.host.config) listed.0 invents.outcome 0 invents.after.records change_now
  adds = invents.adds listed.0 its_node.keeps

  abbrev one : Change
  one = reported_as invents.outcome adds.report

  abbrev moved : Host D
  moved = record invents.host {
    state = Up (without_note invents.after);
    records = invents.host.records ++ invents.noted.octets ∷ [];
  }

  more : (list : List Change) × (slice_get later node ≡ Some list)
  more = there_too new.hosts later node moved (sym now.even) invents.hosts.at

  stands : StandsAt new later node moved more.0
  stands = record { host_at = invents.hosts.at; list_at = more.1 }

  more_is : more.0 ≡ listed.0 ++ one ∷ []
  more_is = one_more invents.host.records invents.noted.octets listed.0 more.0 one kept.list adds.adds.keeps.fitting
      (noted_octets invents.after.records.noted invents.noted listed.0 one 0 invents.note_is adds.adds.noted)
      (now.hosts node moved more.0 stands).list

  found : change_at more.0 (suc (length listed.0)) ≡ Some one
  found = ap (λ l. slice_get l (length listed.0)) more_is ∙ get_last listed.0 one

  module _ (ended : IsOutcomeOf new node (suc (length listed.0))) where
    was_there : slice_get old.attempts ended.at ≡ Some ended.attempt
    was_there = ap (λ l. slice_get l ended.at) (sym invents.attempts) ∙ ended.is_there

    its : (h : Host D) × (l : List Change) × (w : Link) × IsAttempt old lists h l w ended.attempt
    its = known_attempt honest words old lists bound ended.at ended.attempt was_there

    passes : PassesOn its.0 its.1 its.2 ended.attempt
    passes = passes_of honest words old lists bound its.0 its.1 its.2 ended.attempt its.3

    same_list : its.1 ≡ listed.0
    same_list = same_Some its.1 listed.0
        (sym its.3.stands.list_at ∙ ap (λ n. slice_get lists n) ended.its_node ∙ listed.1)

    beyond : (all : List Verdict) → IsItsOutcome ended.attempt all its.1 (suc (length listed.0)) → ⊥
    beyond all told =
        let within = slice_get_within listed.0 (length listed.0) _
        (ap (λ l. slice_get l (length listed.0)) (sym same_list) ∙ told.found) in
        omega (arith, within)

    not_ended : ⊥
    not_ended = elim ended.ended [
      | inl replied ↦
          let fate : HasFate its.0 its.1 its.2 ended.attempt passes.accept passes.output passes.told passes.verdicts
          (Replied (suc (length listed.0))) =
          subst (λ f. HasFate its.0 its.1 its.2 ended.attempt passes.accept passes.output passes.told passes.verdicts f) replied
          passes.fate in
          beyond fate.1.0 fate.1.2
      | inr lost ↦
          let fate : HasFate its.0 its.1 its.2 ended.attempt passes.accept passes.output passes.told passes.verdicts
          (Lost (suc (length listed.0))) =
          subst (λ f. HasFate its.0 its.1 its.2 ended.attempt passes.accept passes.output passes.told passes.verdicts f) lost
          passes.fate in
          beyond fate.1.0 fate.1.2
    ]

  pub broken : ⊥
  broken = elim (once.outcomes node (suc (length listed.0)) moved more.0 (record invents.outcome { report = adds.report }) stands
      found) [
        | inl ended ↦ not_ended ended
        | inr (inl none) ↦ invents.other (none.each invents.place invents.verdict invents.ruling).0
        | inr (inr withdrawn) ↦
            let his = withdrawn.each invents.place invents.verdict invents.ruling in
            invents.not_withdrawn his.0 his.1
      ]

pub inventing_breaks : {D : Type 0} (honest : Type 0) (words : DiskWords D) → InventingBreaks honest words
inventing_breaks honest words old new lists later asked node change bound invents now once =
    broken honest words old new lists later node change bound invents now once

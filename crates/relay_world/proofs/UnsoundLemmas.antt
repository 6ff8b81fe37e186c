-- A line that names another link than its own, an outcome that is forgotten, and a link that heals break the promise.
use Rattle.std.proofs.Common.{inl, inr, sym, subst, ◌∙◌}
use Rattle.std.proofs.lemmas.Bool.{false≢true}
use Rattle.relay_disk.specs.Device.{DiskWords}
use Rattle.relay_world.specs.declared.line.Line.TheVariants.{Accepted, Became}
use Rattle.relay_world.specs.Growth.{FateGrows, StaysBroken}
use Rattle.relay_world.specs.Lines.{ComesOfChange, HasSource, IsServedBy}
use Rattle.relay_world.specs.Unsound.{ForgettingOutcomeBreaks, HealingBreaks, MisnamingBreaks, StoppingIsFailing}
use Rattle.relay_world.proofs.AmongLemmas.{all_of}

pub misnaming_breaks : (D : Type 0) → MisnamingBreaks D
misnaming_breaks D world lists (inl is) sources =
    let source : IsServedBy world is.node is.link =
    all_of (HasSource world lists) world.ledger is.at (Accepted is.node is.number is.places is.link) sources is.line_at in
    is.elsewhere source.its source.end source.is_there source.serves source.its_node
misnaming_breaks D world lists (inr is) sources =
    let source : ComesOfChange world lists is.step is.node is.message is.place is.link is.report =
    all_of (HasSource world lists) world.ledger is.at (Became is.step is.node is.message is.place is.link is.report)
    sources is.line_at in
    elim source.cause [
      | inl ended ↦ is.untried ended.at ended.attempt ended.is_there ended.its_node ended.its_message ended.its_link
      | inr none ↦ is.named none.0
    ]

pub forgetting_outcome_breaks : (D : Type 0) → ForgettingOutcomeBreaks D
forgetting_outcome_breaks D old new forgets grows =
    let its = grows forgets.at forgets.attempt forgets.was_there in
    forgets.other its.0 its.1 (subst (λ f. FateGrows f its.0.fate) forgets.replied its.2.fate)

pub healing_breaks : (D : Type 0) → HealingBreaks D
healing_breaks D old new heals grows =
    let its = grows.octets heals.number heals.link heals.was_there in
    let still : StaysBroken heals.link its.0 = its.2.broken heals.broken in
    elim (heals.whole its.0 its.1) [
      | inl whole ↦ false≢true (sym whole ∙ still.broken)
      | inr (inl up) ↦ up still.up
      | inr (inr down) ↦ down still.down
    ]

pub stopping_is_failing : {D : Type 0} (honest : Type 0) (words : DiskWords D) → StoppingIsFailing honest words
stopping_is_failing honest words old new reason number count node message =
    (λ crash. crash.failed, λ crash. crash.failed, λ crash. crash.failed, λ crash. crash.failed, λ crash. crash.failed)

-- An attempt that has begun at a turn is that of the connection that is left in the table.
use Rattle.std.proofs.Common.{◌≡◌, ◌≢◌, ℕ, Option, None, Some, refl, sym, ◌∙◌, ap, subst}
use Rattle.relay_loop.specs.Relay.{RelayState}
use Rattle.relay_connections.proofs.Theorems.{same_value}
use Rattle.relay_next_hops.specs.Deliveries.{StartsFor, left_of}
use Rattle.relay_lanes.specs.Portions.{Shares, portion_of}
use Rattle.relay_next_hops.specs.declared.delivery.Course.{Course}
use Rattle.relay_next_hops.specs.declared.delivery.Course.TheVariants.{Stays, Ended, Lost, TurnedAway, Void}
use Rattle.relay_next_hops.specs.declared.hop.Hop.{Hop}

-- it was taken out, has come to this course, and is left
pub begun_there : {D S : Type 0} (at most : ℕ) (shares : Shares) (taken old hop new : Hop S) (course : Course) (before between after : RelayState D) (was is : Option (Hop S)) → Some taken ≡ was → was ≡ Some old → is ≡ left_of course hop → is ≡ Some new → most ≡ portion_of shares taken.message → (taken.attempt ≡ None → hop.attempt ≢ None → StartsFor taken.aim.early at most taken.message taken.name hop.attempt before between) → (course ≡ Stays → after ≡ between) → old.attempt ≡ None → new.attempt ≢ None → StartsFor old.aim.early at (portion_of shares old.message) old.message old.name new.attempt before after
begun_there {D} {S} at most shares taken old hop new Stays before between after was is had out came left number starts stays none some =
    let same : taken ≡ old = same_value taken old (had ∙ out) in
    let stands : hop ≡ new = same_value hop new (sym came ∙ left) in
    let begun = starts (ap (λ (it : Hop S). it.attempt) same ∙ none) (λ gone. some (sym (ap (λ (it : Hop S). it.attempt) stands) ∙ gone)) in
    let its = subst (λ (it : Hop S). StartsFor it.aim.early at most it.message it.name hop.attempt before between) same begun in
    let left_its = subst (λ (it : Hop S). StartsFor old.aim.early at most old.message old.name it.attempt before between) stands its in
    let so_many = subst (λ (n : ℕ). StartsFor old.aim.early at n old.message old.name new.attempt before between) (number ∙ ap (λ (it : Hop S). portion_of shares it.message) same) left_its in
    subst (λ (relay : RelayState D). StartsFor old.aim.early at (portion_of shares old.message) old.message old.name new.attempt before relay) (sym (stays refl)) so_many
begun_there at most shares taken old hop new (Ended outbox noted) before between after was is had out came left number starts stays none some = absurd (cc (sym came ∙ left))
begun_there at most shares taken old hop new (Lost loss) before between after was is had out came left number starts stays none some = absurd (cc (sym came ∙ left))
begun_there at most shares taken old hop new TurnedAway before between after was is had out came left number starts stays none some = absurd (cc (sym came ∙ left))
begun_there at most shares taken old hop new Void before between after was is had out came left number starts stays none some = absurd (cc (sym came ∙ left))

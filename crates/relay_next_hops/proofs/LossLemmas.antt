-- The loss of an attempt that has begun.
use Rattle.std.proofs.Common.{◌≡◌, inl, inr, ℕ, Bool, List, Option, None, Some, Result, Ok, Err, sym, ◌∙◌, subst}
use Rattle.std.specs.Prelude.{OnOk}
use Rattle.relay_disk.specs.Device.{DiskWords}
use Rattle.relay_loop.specs.Relay.{RelayState}
use Rattle.relay_limits.specs.declared.pace.Pace.{Pace}
use Rattle.relay_connections.specs.declared.clocks.Now.{Now}
use Rattle.relay_next_hops.specs.Losses.{EndsLostOrTurnedAway, Loses, LosesNot, LosesRunning}
use Rattle.relay_next_hops.specs.declared.delivery.Delivery.{Delivery}

-- it is recorded, or refused
pub running_lost : {D : Type 0} (words : DiskWords D) (now : Now) (delivery : Delivery) (shared : Bool) (paces : List Pace) (old new : RelayState D) (attempt : ℕ) → delivery.attempt ≡ Some attempt → EndsLostOrTurnedAway words now delivery shared paces old new → LosesRunning words now.moment attempt old new
running_lost words now delivery shared paces old new attempt is (inl turned) = absurd (cc (sym turned.0 ∙ is))
running_lost words now delivery shared paces old new attempt is (inr (inl held)) = absurd (cc (sym held.0 ∙ is))
running_lost words now delivery shared paces old new attempt is (inr (inr (inl recorded))) =
    inl (recorded.between, subst (λ (it : Option ℕ). Loses words now.moment delivery old recorded.between it) is recorded.loses, recorded.noted)
running_lost words now delivery shared paces old new attempt is (inr (inr (inr refused))) =
    inr (subst (λ (it : Option ℕ). LosesNot words now.moment delivery old new it) is refused)

-- what follows from what holds of a call that succeeded
pub ok_then : {T E : Type 0} (P Q : Type 0) (result : Result T E) → (P → Q) → OnOk result P → OnOk result Q
ok_then P Q (Ok value) follows holds = follows holds
ok_then P Q (Err fault) follows holds = tt

-- A relay that drains turns clients away, whatever is asked of it.
use Rattle.std.proofs.Common.{◌≡◌, ◌≢◌, ℕ, true, ◌∙◌, ap, subst}
use Rattle.std.specs.Prelude.{Option, None}
use Rattle.relay_connections.specs.declared.clients.Clients.{Clients}
use Rattle.relay_control.specs.declared.request.Request.{Request}
use Rattle.relay_control.specs.declared.request.Request.TheVariants.{Flush, Hold, Release, Return, Discard, Reload, Drain as Drains}
use Rattle.relay_run.specs.Steering.{DrainsBy}
use Rattle.relay_run.specs.declared.draining.Drain.{Drain}

module _ {S : Type 0} (tick caller : ℕ) (old new : Option Drain) (before after : Clients S) where
  same_still : (new ≡ old) × (after ≡ before) → (old ≢ None → before.stops ≡ true) → new ≢ None → after.stops ≡ true
  same_still (drain, clients) turned drains =
      ap (λ (it : Clients S). it.stops) clients ∙ turned (subst (λ (it : Option Drain). it ≢ None) drain drains)

  pub turned_still : (request : Request) → DrainsBy tick caller request old new before after
      → (old ≢ None → before.stops ≡ true) → new ≢ None → after.stops ≡ true
  turned_still (Drains seconds) (drain, clients) turned drains = ap (λ (it : Clients S). it.stops) clients
  turned_still (Flush scope) same turned drains = same_still same turned drains
  turned_still (Hold scope) same turned drains = same_still same turned drains
  turned_still (Release scope) same turned drains = same_still same turned drains
  turned_still (Return names) same turned drains = same_still same turned drains
  turned_still (Discard names) same turned drains = same_still same turned drains
  turned_still Reload (drain, stops) turned drains =
      stops ∙ turned (subst (λ (it : Option Drain). it ≢ None) drain drains)

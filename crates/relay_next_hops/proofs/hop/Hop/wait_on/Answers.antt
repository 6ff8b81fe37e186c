-- The deadline is as long from now as the phase allows.
use Rattle.std.proofs.Common.{◌≡◌, ◌==◌, ℕ, Bool, not, List, length, refl, ap, ◌∙◌}
use Rattle.relay_connections.specs.Renewal.{tick_after}
use Rattle.relay_next_hops.specs.Phases.{patience}
use Rattle.relay_next_hops.specs.Waiting.{writes_to}
use Rattle.relay_next_hops.specs.declared.hop.Hop.{Hop}
use Rattle.relay_next_hops.proofs.hop.Hop.wait_on.Goals as goal

pub returns-clause-waits : goal.returns-clause-waits
returns-clause-waits g c =
    let tick = c.args.now.now.tick in
    let hop : Hop _ = c.args.self.now in
    let writes : not c.is_empty-writes.result ≡ writes_to c.args.relay.now c.args.attempt =
    ap (λ (b : Bool). not b) (c.is_empty-writes.ensures ∙ ap (λ (l : List ℕ). length l == 0) c.to_hop.ensures) in
    let after : c.after-self.result ≡ tick_after tick (patience hop.phase (writes_to c.args.relay.now c.args.attempt)) =
    c.after-self.ensures ∙ ap (tick_after tick) (c.seconds.ensures ∙ ap (patience hop.phase) writes) in
    record { phase = refl; answer = refl; idle = after }

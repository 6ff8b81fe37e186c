-- none of those that were passed over has a minute of the address
use Rattle.std.proofs.Common.{◌≡◌, ◌<◌, ℕ, true}
use Rattle.relay_log.specs.RejectionMinutes.{is_running, minute_at}
use Rattle.relay_log.proofs.rejection_minutes.RejectionMinutes.running.Given as goal

abbrev pub invariant-loop-number : goal.invariant-loop-number
invariant-loop-number l =
    (number : ℕ) → number < l.number → is_running l.address l.tick (minute_at l.self.places number) ≡ true → ⊥

-- none that was passed over is over before it
use Rattle.std.proofs.Common.{◌≤◌, ◌<◌, ℕ}
use Rattle.relay_log.specs.RejectionMinutes.{end_at}
use Rattle.relay_log.proofs.rejection_minutes.RejectionMinutes.first.Given as goal

abbrev pub invariant-loop-number : goal.invariant-loop-number
invariant-loop-number l =
    (l.first < 64) × ((other : ℕ) → other < l.number → end_at l.self.places l.first ≤ end_at l.self.places other)

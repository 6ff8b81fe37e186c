-- it is no later than what was passed over asks for
use Rattle.std.proofs.Common.{◌≤◌, ◌<◌, ℕ}
use Rattle.relay_log.specs.RejectionMinutes.{IsNotLate, minute_at}
use Rattle.relay_log.proofs.rejection_minutes.RejectionMinutes.next_deadline.Given as goal

abbrev pub invariant-loop-number : goal.invariant-loop-number
invariant-loop-number l =
    (l.next ≤ l.otherwise) × ((number : ℕ) → number < l.number → IsNotLate l.next (minute_at l.self.places number))

-- no place is lost, nor a task
use Rattle.std.proofs.Common.{◌≡◌, ℕ}
use Rattle.relay_next_hops.specs.Lanes.{tasks_at}
use Rattle.relay_next_hops.proofs.lanes.Lanes.grow.Given as goal

abbrev pub invariant-loop : goal.invariant-loop
invariant-loop l =
    (l.self.places ≡ l.initial.self.places) × (l.self.paces ≡ l.initial.self.paces)
    × (l.self.unroutable ≡ l.initial.self.unroutable) × (l.self.is_stale ≡ l.initial.self.is_stale)
    × (l.self.queued ≡ l.initial.self.queued) × (l.self.is_listing ≡ l.initial.self.is_listing)
    × (l.self.held ≡ l.initial.self.held) × ((lane : ℕ) → tasks_at l.self lane ≡ tasks_at l.initial.self lane)
    × (l.self.is_open ≡ l.initial.self.is_open) × (l.self.next_number ≡ l.initial.self.next_number)
    × (l.self.knows_all ≡ l.initial.self.knows_all)

-- what is due stays
use Rattle.std.proofs.Common.{◌≡◌}
use Rattle.relay_lanes.proofs.lane.Lane.let_go.Given as goal

abbrev pub invariant-loop : goal.invariant-loop
invariant-loop l =
    (l.self.early ≡ l.initial.self.early) × (l.self.tasks ≡ l.initial.self.tasks)
    × (l.self.unchecked ≡ l.initial.self.unchecked)

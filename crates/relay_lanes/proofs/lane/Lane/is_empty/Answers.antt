-- A lane with a task that was asked for early isn't empty.
use Rattle.std.proofs.Common.{◌≡◌, [], rules}
use Rattle.relay_lanes.proofs.LaneLemmas.{front_none}
use Rattle.relay_lanes.proofs.lane.Lane.is_empty.Goals as goal

pub returns-else-is_empty : goal.returns-else-is_empty
returns-else-is_empty c =
    let lane = c.args.self.now in
    let apart : lane.early.items ≡ [] → ⊥ = search rules in
    (λ is. absurd (cc (is, c.if-is_empty.false)), λ none. absurd (apart (front_none lane.early.items lane.tasks.items none)))

-- The cursor goes on by one, or stays at the end.
use Rattle.std.proofs.Common.{ap, ◌∙◌, arith, drop, length, ◌-◌}
use Rattle.relay_lanes.proofs.LaneLemmas.{last_less}
use Rattle.relay_lanes.proofs.lane.Lane.check.Goals as goal

pub returns-clause-unchecked : goal.returns-clause-unchecked
returns-clause-unchecked c =
    let lane = c.args.self.now in
    ap (λ n. drop (length lane.tasks.items - n) lane.tasks.items) (omega arith) ∙ last_less lane.tasks.items lane.unchecked

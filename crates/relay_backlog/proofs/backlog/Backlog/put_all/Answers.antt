use Rattle.std.proofs.Common.{◌<◌, ◌∙◌, length, arith}
use Rattle.relay_backlog.proofs.LineLemmas.{line_put}
use Rattle.relay_backlog.proofs.backlog.Backlog.put_all.Goals as goal

pub loop-rest-preserved : goal.loop-rest-preserved
loop-rest-preserved c =
    let some : 0 < length c.loop-rest.rest.now = grind arith in
    line_put c.loop-rest.self c.put.new.self c.loop-rest.rest.now c.split_at.result.0.now c.split_at.result.1.now
    c.line_length.result c.line_length.ensures.line c.split_at.ensures.front c.split_at.ensures.back some c.put.ensures
    ∙ c.loop-rest.invariant

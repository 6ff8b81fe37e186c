-- The others stay in the lane, whether there was memory for the task or not.
use Rattle.std.proofs.Common.{refl, arith}
use Rattle.relay_next_hops.proofs.TaskLemmas.{put_kept}
use Rattle.relay_next_hops.proofs.lanes.Lanes.put_back.Goals as goal

pub returns-then-not-put_back-clause-kept : goal.returns-then-not-put_back-clause-kept
returns-then-not-put_back-clause-kept c =
    put_kept c.args.self.now.lanes.items c.args.number c.args.task c.in-Some.lane.now c.put_back.new.self c.put_back.result
    (omega (arith, c.in-Some.ensures.variant.0 refl, c.args.self.now.lanes.ok.0)) c.in-Some.ensures.value c.put_back.ensures.pushed c.put_back.ensures.failed

pub returns-else-not-put_back-clause-kept : goal.returns-else-not-put_back-clause-kept
returns-else-not-put_back-clause-kept c =
    put_kept c.args.self.now.lanes.items c.args.number c.args.task c.in-Some.lane.now c.put_back.new.self c.put_back.result
    (omega (arith, c.in-Some.ensures.variant.0 refl, c.args.self.now.lanes.ok.0)) c.in-Some.ensures.value c.put_back.ensures.pushed c.put_back.ensures.failed

-- a nearer place would lie in the one before
use Rattle.std.proofs.Common.{arith, length, subst, sym}
use Rattle.std.proofs.lemmas.Bool.{false≢true}
use Rattle.std.proofs.lemmas.Slice.{between_to_end}
use Rattle.memchr.specs.Find.{OccursAt}
use Rattle.relay_report.proofs.NearLemmas.{further}
use Rattle.relay_report.proofs.numbers.least_step.Goals as goal

pub loop-step-preserved : goal.loop-step-preserved
loop-step-preserved c = further c.args.stem.now c.loop-step.step (omega (arith, c.loop-step-test.true)) c.loop-step.invariant (λ occurs. false≢true (c.if-is_prefix.ensures.1 (subst (λ end. OccursAt c.args.stem.now end 0) (sym (between_to_end c.args.stem.now c.loop-step.step (length c.args.stem.now) (omega arith))) occurs)))

pub returns-clause-after : goal.returns-clause-after
returns-clause-after c = λ text place far one some near. c.loop-step.invariant text place far one some (omega (arith, near, c.loop-step-test.false))

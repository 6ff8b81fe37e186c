-- What is used of its octets is as its answer says, or as it hears them alone.
use Rattle.std.proofs.Common.{refl}
use Rattle.relay_next_hops.proofs.HearingLemmas.{used_alone, used_own}
use Rattle.relay_next_hops.proofs.hop.Hop.take_answer.Goals as goal

pub returns-then-was_left-clause-uses : goal.returns-then-was_left-clause-uses
returns-then-was_left-clause-uses g c =
    used_alone c.args.now.now.tick c.args.answer c.args.self.now c.hear_alone.new.self c.hear_alone.result c.hear_alone.ensures.delivery (c.if-was_left.ensures.0 refl) c.hear_alone.ensures.used

pub returns-else-was_left-clause-uses : goal.returns-else-was_left-clause-uses
returns-else-was_left-clause-uses g c =
    used_own c.args.now.now.tick c.args.answer c.args.self.now c.answer.new.self c.answer.result c.answer.ensures.delivery c.answer.ensures.course

pub returns-else-was_left-clause-told : goal.returns-else-was_left-clause-told
returns-else-was_left-clause-told g c = λ used told. (_, c.answer.ensures.told used told)

use Rattle.relay_course.proofs.OrderLemmas.{end_waits_for_nothing}
use Rattle.relay_course.proofs.laws.end_waits_for_nothing.Goals as goal

pub returns : goal.returns
returns c = end_waits_for_nothing

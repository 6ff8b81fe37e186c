use Rattle.relay_course.proofs.EndLemmas.{answered_are_first}
use Rattle.relay_course.proofs.laws.answered_are_first.Goals as goal

pub returns : goal.returns
returns c = answered_are_first

use Rattle.relay_course.proofs.EndLemmas.{verdict_for_each_place}
use Rattle.relay_course.proofs.laws.verdict_for_each_place.Goals as goal

pub returns : goal.returns
returns c = verdict_for_each_place

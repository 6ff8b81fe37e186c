use Rattle.relay_course.proofs.GoingLemmas.{end_is_end}
use Rattle.relay_course.proofs.laws.end_is_end.Goals as goal

pub returns : goal.returns
returns c = end_is_end

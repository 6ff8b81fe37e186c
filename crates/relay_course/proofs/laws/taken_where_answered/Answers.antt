use Rattle.relay_course.proofs.TakenLemmas.{taken_where_answered}
use Rattle.relay_course.proofs.laws.taken_where_answered.Goals as goal

pub returns : goal.returns
returns c = taken_where_answered

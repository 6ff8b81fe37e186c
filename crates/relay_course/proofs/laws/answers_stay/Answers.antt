use Rattle.relay_course.proofs.EndLemmas.{answers_stay}
use Rattle.relay_course.proofs.laws.answers_stay.Goals as goal

pub returns : goal.returns
returns c = answers_stay

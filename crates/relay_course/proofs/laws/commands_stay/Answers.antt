use Rattle.relay_course.proofs.GoingLemmas.{commands_stay}
use Rattle.relay_course.proofs.laws.commands_stay.Goals as goal

pub returns : goal.returns
returns c = commands_stay

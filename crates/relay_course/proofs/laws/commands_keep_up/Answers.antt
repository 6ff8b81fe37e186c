use Rattle.relay_course.proofs.EndLemmas.{commands_keep_up}
use Rattle.relay_course.proofs.laws.commands_keep_up.Goals as goal

pub returns : goal.returns
returns c = commands_keep_up

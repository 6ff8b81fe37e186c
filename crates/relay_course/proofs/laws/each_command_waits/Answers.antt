use Rattle.relay_course.proofs.GoingLemmas.{each_command_waits}
use Rattle.relay_course.proofs.laws.each_command_waits.Goals as goal

pub returns : goal.returns
returns c = each_command_waits

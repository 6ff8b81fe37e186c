use Rattle.relay_course.proofs.WrittenLemmas.{each_command_is_read}
use Rattle.relay_course.proofs.laws.each_command_is_read.Goals as goal

pub returns : goal.returns
returns c = each_command_is_read

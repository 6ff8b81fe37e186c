use Rattle.relay_course.proofs.OneLemmas.{course_is_one}
use Rattle.relay_course.proofs.laws.course_is_one.Goals as goal

pub returns : goal.returns
returns c = course_is_one

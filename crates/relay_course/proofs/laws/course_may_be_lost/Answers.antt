use Rattle.relay_course.proofs.EndLemmas.{course_may_be_lost}
use Rattle.relay_course.proofs.laws.course_may_be_lost.Goals as goal

pub returns : goal.returns
returns c = course_may_be_lost

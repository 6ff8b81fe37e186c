use Rattle.relay_course.proofs.SettlingLemmas.{course_settles}
use Rattle.relay_course.proofs.laws.course_settles.Goals as goal

pub returns : goal.returns
returns c = course_settles

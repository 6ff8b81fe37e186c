use Rattle.relay_course.proofs.EndLemmas.{rcpts_are_in_order}
use Rattle.relay_course.proofs.laws.rcpts_are_in_order.Goals as goal

pub returns : goal.returns
returns c = rcpts_are_in_order

use Rattle.relay_course.proofs.RelayLemmas.{all_rcpts_answered}
use Rattle.relay_course.proofs.laws.all_rcpts_answered.Goals as goal

pub returns : goal.returns
returns c = all_rcpts_answered

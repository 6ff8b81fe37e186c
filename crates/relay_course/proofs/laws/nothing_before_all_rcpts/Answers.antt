use Rattle.relay_course.proofs.RelayLemmas.{nothing_before_all_rcpts}
use Rattle.relay_course.proofs.laws.nothing_before_all_rcpts.Goals as goal

pub returns : goal.returns
returns c = nothing_before_all_rcpts

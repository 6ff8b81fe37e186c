use Rattle.relay_server.proofs.TurnLawLemmas.{course_is_fixed}
use Rattle.relay_server.proofs.turn_laws.course_is_fixed.Goals as goal

pub returns : goal.returns
returns c = course_is_fixed

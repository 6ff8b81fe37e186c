use Rattle.relay_server.proofs.TurnLawLemmas.{course_is_of_a_unit}
use Rattle.relay_server.proofs.turn_laws.course_is_of_a_unit.Goals as goal

pub returns : goal.returns
returns c = course_is_of_a_unit

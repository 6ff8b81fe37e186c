use Rattle.relay_server.proofs.TurnLawLemmas.{no_unit_lacks_a_course}
use Rattle.relay_server.proofs.turn_laws.no_unit_lacks_a_course.Goals as goal

pub returns : goal.returns
returns c = no_unit_lacks_a_course

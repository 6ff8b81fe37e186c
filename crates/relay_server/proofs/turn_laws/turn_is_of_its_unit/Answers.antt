use Rattle.relay_server.proofs.TurnLawLemmas.{turn_is_of_its_unit}
use Rattle.relay_server.proofs.turn_laws.turn_is_of_its_unit.Goals as goal

pub returns : goal.returns
returns c = turn_is_of_its_unit

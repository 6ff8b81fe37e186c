use Rattle.relay_server.proofs.TurnLawLemmas.{asked_is_a_unit}
use Rattle.relay_server.proofs.turn_laws.asked_is_a_unit.Goals as goal

pub returns : goal.returns
returns c = asked_is_a_unit

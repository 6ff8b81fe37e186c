use Rattle.relay_server.proofs.TurnLawLemmas.{line_is_answered}
use Rattle.relay_server.proofs.turn_laws.line_is_answered.Goals as goal

pub returns : goal.returns
returns c = line_is_answered

use Rattle.relay_server.proofs.TurnLawLemmas.{text_is_answered}
use Rattle.relay_server.proofs.turn_laws.text_is_answered.Goals as goal

pub returns : goal.returns
returns c = text_is_answered

use Rattle.relay_server.proofs.TurnLawLemmas.{chunk_is_answered}
use Rattle.relay_server.proofs.turn_laws.chunk_is_answered.Goals as goal

pub returns : goal.returns
returns c = chunk_is_answered

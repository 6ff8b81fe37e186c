use Rattle.relay_server.proofs.TakenLemmas.{recipients_are_taken}
use Rattle.relay_server.proofs.laws.recipients_are_taken.Goals as goal

pub returns : goal.returns
returns c = recipients_are_taken

use Rattle.relay_server.proofs.DialogueLemmas.{runs_compose}
use Rattle.relay_server.proofs.laws.runs_compose.Goals as goal

pub returns : goal.returns
returns c = runs_compose

use Rattle.relay_server.proofs.DialogueLemmas.{output_is_fixed}
use Rattle.relay_server.proofs.laws.output_is_fixed.Goals as goal

pub returns : goal.returns
returns c = output_is_fixed

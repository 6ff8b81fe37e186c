use Rattle.relay_server.proofs.TurnLemmas.{row_is_fixed}
use Rattle.relay_server.proofs.laws.row_is_fixed.Goals as goal

pub returns : goal.returns
returns c = row_is_fixed

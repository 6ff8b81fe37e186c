use Rattle.relay_server.proofs.UnitLemmas.{no_unit_is_empty}
use Rattle.relay_server.proofs.laws.no_unit_is_empty.Goals as goal

pub returns : goal.returns
returns c = no_unit_is_empty

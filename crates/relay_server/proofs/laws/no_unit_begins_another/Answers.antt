use Rattle.relay_server.proofs.UnitLemmas.{no_unit_begins_another}
use Rattle.relay_server.proofs.laws.no_unit_begins_another.Goals as goal

pub returns : goal.returns
returns c = no_unit_begins_another

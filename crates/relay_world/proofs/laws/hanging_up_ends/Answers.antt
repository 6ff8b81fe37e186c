use Rattle.relay_world.proofs.HangUpLemmas.{hanging_up_ends}
use Rattle.relay_world.proofs.laws.hanging_up_ends.Goals as goal

pub returns : goal.returns
returns g c = hanging_up_ends _

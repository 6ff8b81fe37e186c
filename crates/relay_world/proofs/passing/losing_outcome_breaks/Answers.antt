use Rattle.relay_world.proofs.LosingLemmas.{losing_outcome_breaks}
use Rattle.relay_world.proofs.passing.losing_outcome_breaks.Goals as goal

pub returns : goal.returns
returns g c = losing_outcome_breaks g.D.Disk.honest g.D.Disk.words

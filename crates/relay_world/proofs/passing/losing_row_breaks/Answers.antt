use Rattle.relay_world.proofs.LosingLemmas.{losing_row_breaks}
use Rattle.relay_world.proofs.passing.losing_row_breaks.Goals as goal

pub returns : goal.returns
returns g c = losing_row_breaks g.D.Disk.honest g.D.Disk.words

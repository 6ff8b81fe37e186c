use Rattle.relay_world.proofs.LosingLemmas.{losing_record_breaks}
use Rattle.relay_world.proofs.passing.losing_record_breaks.Goals as goal

pub returns : goal.returns
returns g c = losing_record_breaks g.D.Disk.honest g.D.Disk.words

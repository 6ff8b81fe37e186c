use Rattle.relay_records.proofs.StagedLemmas.{none_awaited}
use Rattle.relay_records.proofs.list_laws.none_is_awaited.Goals as goal

pub returns : goal.returns
returns g c = none_awaited g.D.Disk.honest g.D.Disk.words

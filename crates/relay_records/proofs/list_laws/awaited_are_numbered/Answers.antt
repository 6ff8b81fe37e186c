use Rattle.relay_records.proofs.StagedLemmas.{awaited_are_numbered}
use Rattle.relay_records.proofs.list_laws.awaited_are_numbered.Goals as goal

pub returns : goal.returns
returns g c = awaited_are_numbered g.D.Disk.honest g.D.Disk.words

use Rattle.relay_records.proofs.LawLemmas.{kept_is_opened}
use Rattle.relay_records.proofs.list_laws.kept_is_opened.Goals as goal

pub returns : goal.returns
returns g c = λ h. kept_is_opened g.D.Disk.honest g.D.Disk.words (g.met.D.Disk.sees_now h) h

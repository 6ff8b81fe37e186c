use Rattle.relay_records.proofs.LawLemmas.{halted_all_is_opened}
use Rattle.relay_records.proofs.list_laws.halted_all_is_opened.Goals as goal

pub returns : goal.returns
returns g c = λ h. halted_all_is_opened g.D.Disk.honest g.D.Disk.words (g.met.D.Disk.sees_now h) h

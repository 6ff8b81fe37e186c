use Rattle.relay_records.proofs.LawLemmas.{one_list_is_kept}
use Rattle.relay_records.proofs.list_laws.one_list_is_kept.Goals as goal

pub returns : goal.returns
returns g c = λ h. one_list_is_kept g.D.Disk.honest g.D.Disk.words h

use Rattle.relay_daemon.proofs.WriteLemmas.{writing_to_hops}
use Rattle.relay_daemon.proofs.laws.writing_to_hops_stays.Goals as goal

pub returns : goal.returns
returns g c = writing_to_hops

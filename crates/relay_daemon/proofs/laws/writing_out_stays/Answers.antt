use Rattle.relay_daemon.proofs.WriteLemmas.{writing_out}
use Rattle.relay_daemon.proofs.laws.writing_out_stays.Goals as goal

pub returns : goal.returns
returns g c = writing_out

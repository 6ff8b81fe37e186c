use Rattle.relay_loop.proofs.CalledLemmas.{one_call}
use Rattle.relay_loop.proofs.laws.one_is_called.Goals as goal

pub returns : goal.returns
returns g c = one_call

use Rattle.relay_loop.proofs.CalledLemmas.{no_call}
use Rattle.relay_loop.proofs.laws.nothing_is_no_call.Goals as goal

pub returns : goal.returns
returns g c = no_call

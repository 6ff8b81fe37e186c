use Rattle.relay_loop.proofs.CalledLemmas.{calls_follow}
use Rattle.relay_loop.proofs.laws.calls_follow.Goals as goal

pub returns : goal.returns
returns g c = calls_follow

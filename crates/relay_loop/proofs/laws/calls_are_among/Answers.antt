use Rattle.relay_loop.proofs.CalledLemmas.{calls_are_among}
use Rattle.relay_loop.proofs.laws.calls_are_among.Goals as goal

pub returns : goal.returns
returns g c = calls_are_among

use Rattle.relay_loop.proofs.LawLemmas.{queued_are_accepted}
use Rattle.relay_loop.proofs.laws.queued_are_accepted.Goals as goal

pub returns : goal.returns
returns g c = queued_are_accepted

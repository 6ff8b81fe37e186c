use Rattle.relay_loop.proofs.LawLemmas.{others_talk}
use Rattle.relay_loop.proofs.laws.others_talk.Goals as goal

pub returns : goal.returns
returns g c = others_talk

use Rattle.relay_loop.proofs.LawLemmas.{others_hand}
use Rattle.relay_loop.proofs.laws.others_hand.Goals as goal

pub returns : goal.returns
returns g c = others_hand

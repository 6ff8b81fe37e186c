use Rattle.relay_loop.proofs.LawLemmas.{hands_stay}
use Rattle.relay_loop.proofs.laws.hands_stay.Goals as goal

pub returns : goal.returns
returns g c = hands_stay

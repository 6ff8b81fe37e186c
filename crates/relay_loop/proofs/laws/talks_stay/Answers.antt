use Rattle.relay_loop.proofs.LawLemmas.{talks_stay}
use Rattle.relay_loop.proofs.laws.talks_stay.Goals as goal

pub returns : goal.returns
returns g c = talks_stay

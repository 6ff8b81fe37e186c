use Rattle.relay_loop.proofs.LawLemmas.{talks_are_dialogues}
use Rattle.relay_loop.proofs.laws.talks_are_dialogues.Goals as goal

pub returns : goal.returns
returns g c = talks_are_dialogues

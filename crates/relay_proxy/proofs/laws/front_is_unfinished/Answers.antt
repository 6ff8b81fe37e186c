use Rattle.relay_proxy.proofs.HeaderLawLemmas.{front_is_unfinished}
use Rattle.relay_proxy.proofs.laws.front_is_unfinished.Goals as goal

pub returns : goal.returns
returns c = front_is_unfinished

use Rattle.relay_proxy.proofs.HeaderLawLemmas.{header_is_finished}
use Rattle.relay_proxy.proofs.laws.header_is_finished.Goals as goal

pub returns : goal.returns
returns c = header_is_finished

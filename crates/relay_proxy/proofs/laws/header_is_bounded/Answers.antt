use Rattle.relay_proxy.proofs.HeaderLawLemmas.{header_is_bounded}
use Rattle.relay_proxy.proofs.laws.header_is_bounded.Goals as goal

pub returns : goal.returns
returns c = header_is_bounded

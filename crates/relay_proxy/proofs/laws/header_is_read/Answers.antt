use Rattle.relay_proxy.proofs.HeaderLawLemmas.{header_is_read}
use Rattle.relay_proxy.proofs.laws.header_is_read.Goals as goal

pub returns : goal.returns
returns c = header_is_read

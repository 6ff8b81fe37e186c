use Rattle.relay_trace.proofs.LawLemmas.{header_goes_on}
use Rattle.relay_trace.proofs.laws.header_goes_on.Goals as goal

pub returns : goal.returns
returns c = header_goes_on

use Rattle.relay_trace.proofs.LinesLemmas.{received_is_tested}
use Rattle.relay_trace.proofs.laws.received_is_tested.Goals as goal

pub returns : goal.returns
returns c = received_is_tested

use Rattle.relay_trace.proofs.StampLemmas.{passing_keeps_header}
use Rattle.relay_trace.proofs.laws.passing_keeps_header.Goals as goal

pub returns : goal.returns
returns c = passing_keeps_header

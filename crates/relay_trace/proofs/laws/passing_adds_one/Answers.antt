use Rattle.relay_trace.proofs.StampLemmas.{passing_adds_one}
use Rattle.relay_trace.proofs.laws.passing_adds_one.Goals as goal

pub returns : goal.returns
returns c = passing_adds_one

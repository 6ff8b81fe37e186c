use Rattle.relay_trace.proofs.StampLemmas.{time_stamp_is_one}
use Rattle.relay_trace.proofs.laws.time_stamp_is_one.Goals as goal

pub returns : goal.returns
returns c = time_stamp_is_one

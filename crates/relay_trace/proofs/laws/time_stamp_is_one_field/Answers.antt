use Rattle.relay_trace.proofs.StampLemmas.{time_stamp_is_one_field}
use Rattle.relay_trace.proofs.laws.time_stamp_is_one_field.Goals as goal

pub returns : goal.returns
returns c = time_stamp_is_one_field

use Rattle.relay_trace.proofs.ShortLemmas.{time_stamp_is_short}
use Rattle.relay_trace.proofs.laws.time_stamp_is_short.Goals as goal

pub returns : goal.returns
returns c = time_stamp_is_short

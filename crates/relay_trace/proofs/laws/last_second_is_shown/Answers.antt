use Rattle.relay_trace.proofs.ShortLemmas.{last_second_is_shown}
use Rattle.relay_trace.proofs.laws.last_second_is_shown.Goals as goal

pub returns : goal.returns
returns c = last_second_is_shown

use Rattle.relay_trace.proofs.DateTextLemmas.{date_text_tells_moment}
use Rattle.relay_trace.proofs.laws.date_text_tells_moment.Goals as goal

pub returns : goal.returns
returns c = date_text_tells_moment

use Rattle.relay_trace.proofs.DateTextLemmas.{date_text_is_one}
use Rattle.relay_trace.proofs.laws.date_text_is_one.Goals as goal

pub returns : goal.returns
returns c = date_text_is_one

use Rattle.relay_trace.proofs.StampLemmas.{date_text_has_no_crlf}
use Rattle.relay_trace.proofs.laws.date_text_has_no_crlf.Goals as goal

pub returns : goal.returns
returns c = date_text_has_no_crlf

use Rattle.relay_trace.proofs.ShortLemmas.{date_text_has_31_octets}
use Rattle.relay_trace.proofs.laws.date_text_has_31_octets.Goals as goal

pub returns : goal.returns
returns c = date_text_has_31_octets

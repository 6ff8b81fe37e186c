use Rattle.relay_trace.proofs.LawLemmas.{header_ends_with_text}
use Rattle.relay_trace.proofs.laws.header_ends_with_text.Goals as goal

pub returns : goal.returns
returns c = header_ends_with_text

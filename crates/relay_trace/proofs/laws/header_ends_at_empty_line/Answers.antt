use Rattle.relay_trace.proofs.LawLemmas.{header_ends_at_empty_line}
use Rattle.relay_trace.proofs.laws.header_ends_at_empty_line.Goals as goal

pub returns : goal.returns
returns c = header_ends_at_empty_line

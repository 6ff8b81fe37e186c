use Rattle.relay_trace.proofs.LinesLemmas.{lines_are_one}
use Rattle.relay_trace.proofs.laws.lines_are_one.Goals as goal

pub returns : goal.returns
returns c = lines_are_one

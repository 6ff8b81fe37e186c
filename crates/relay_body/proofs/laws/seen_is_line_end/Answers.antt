use Rattle.relay_body.proofs.DotTextLemmas.{seen_is_line_end}
use Rattle.relay_body.proofs.laws.seen_is_line_end.Goals as goal

pub returns : goal.returns
returns c = seen_is_line_end

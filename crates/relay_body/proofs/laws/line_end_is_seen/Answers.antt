use Rattle.relay_body.proofs.DotTextLemmas.{line_end_is_seen}
use Rattle.relay_body.proofs.laws.line_end_is_seen.Goals as goal

pub returns : goal.returns
returns c = line_end_is_seen

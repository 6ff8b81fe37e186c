use Rattle.relay_body.proofs.DotTextLemmas.{content_ends_in_line_end}
use Rattle.relay_body.proofs.laws.content_ends_in_line_end.Goals as goal

pub returns : goal.returns
returns c = content_ends_in_line_end

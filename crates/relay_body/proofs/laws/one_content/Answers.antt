use Rattle.relay_body.proofs.DotTextLemmas.{one_content}
use Rattle.relay_body.proofs.laws.one_content.Goals as goal

pub returns : goal.returns
returns c = one_content

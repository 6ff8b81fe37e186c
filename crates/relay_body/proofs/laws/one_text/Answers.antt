use Rattle.relay_body.proofs.DotTextLemmas.{one_text}
use Rattle.relay_body.proofs.laws.one_text.Goals as goal

pub returns : goal.returns
returns c = one_text

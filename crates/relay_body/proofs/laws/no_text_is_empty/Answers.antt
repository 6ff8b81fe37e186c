use Rattle.relay_body.proofs.DotTextLemmas.{no_text_is_empty}
use Rattle.relay_body.proofs.laws.no_text_is_empty.Goals as goal

pub returns : goal.returns
returns c = no_text_is_empty

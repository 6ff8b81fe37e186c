use Rattle.relay_body.proofs.DotTextLemmas.{reading_is_open}
use Rattle.relay_body.proofs.laws.reading_is_open.Goals as goal

pub returns : goal.returns
returns c = reading_is_open

use Rattle.relay_body.proofs.DotTextLemmas.{reading_has_no_dot_text}
use Rattle.relay_body.proofs.laws.reading_has_no_dot_text.Goals as goal

pub returns : goal.returns
returns c = reading_has_no_dot_text

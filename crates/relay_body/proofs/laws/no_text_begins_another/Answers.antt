use Rattle.relay_body.proofs.DotTextLemmas.{no_text_begins_another}
use Rattle.relay_body.proofs.laws.no_text_begins_another.Goals as goal

pub returns : goal.returns
returns c = no_text_begins_another

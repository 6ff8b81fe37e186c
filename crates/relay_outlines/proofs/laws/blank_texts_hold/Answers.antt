use Rattle.relay_outlines.proofs.LookLemmas.{blank_texts_hold}
use Rattle.relay_outlines.proofs.laws.blank_texts_hold.Goals as goal

pub returns : goal.returns
returns c = blank_texts_hold

use Rattle.relay_listing.proofs.RowLemmas.{blank_texts_show}
use Rattle.relay_listing.proofs.laws.blank_texts_show.Goals as goal

pub returns : goal.returns
returns c = blank_texts_show

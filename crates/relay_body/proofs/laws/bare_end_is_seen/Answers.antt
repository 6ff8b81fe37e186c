use Rattle.relay_body.proofs.BareEndLemmas.{bare_end_is_seen}
use Rattle.relay_body.proofs.laws.bare_end_is_seen.Goals as goal

pub returns : goal.returns
returns c = bare_end_is_seen

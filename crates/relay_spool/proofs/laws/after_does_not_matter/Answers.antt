use Rattle.relay_spool.proofs.ReadingLemmas.{after_does_not_matter}
use Rattle.relay_spool.proofs.laws.after_does_not_matter.Goals as goal

pub returns : goal.returns
returns c = after_does_not_matter

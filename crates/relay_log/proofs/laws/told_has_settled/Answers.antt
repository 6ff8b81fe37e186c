use Rattle.relay_log.proofs.ToldLemmas.{told_has_settled}
use Rattle.relay_log.proofs.laws.told_has_settled.Goals as goal

pub returns : goal.returns
returns c = told_has_settled

use Rattle.relay_node.proofs.AttemptLemmas.{told_stays}
use Rattle.relay_node.proofs.laws.told_stays.Goals as goal

pub returns : goal.returns
returns c = told_stays

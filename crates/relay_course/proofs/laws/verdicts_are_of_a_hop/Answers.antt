use Rattle.relay_course.proofs.HopLemmas.{verdicts_are_of_a_hop}
use Rattle.relay_course.proofs.laws.verdicts_are_of_a_hop.Goals as goal

pub returns : goal.returns
returns c = verdicts_are_of_a_hop

use Rattle.relay_course.proofs.EndLemmas.{verdicts_may_be_stored}
use Rattle.relay_course.proofs.laws.verdicts_may_be_stored.Goals as goal

pub returns : goal.returns
returns c = verdicts_may_be_stored

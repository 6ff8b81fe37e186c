use Rattle.relay_course.proofs.SettlingLemmas.{settled_by_its_reply}
use Rattle.relay_course.proofs.laws.settled_by_its_reply.Goals as goal

pub returns : goal.returns
returns c = settled_by_its_reply

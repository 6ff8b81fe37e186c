use Rattle.relay_book.proofs.LeavingLemmas.{steps_leave}
use Rattle.relay_book.proofs.custody_laws.steps_leave.Goals as goal

pub returns : goal.returns
returns c = steps_leave

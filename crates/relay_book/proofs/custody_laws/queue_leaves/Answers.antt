use Rattle.relay_book.proofs.LeavingLemmas.{queue_leaves}
use Rattle.relay_book.proofs.custody_laws.queue_leaves.Goals as goal

pub returns : goal.returns
returns c = queue_leaves

use Rattle.relay_book.proofs.DueListLaws.{queue_tells_due}
use Rattle.relay_book.proofs.custody_laws.queue_tells_due.Goals as goal

pub returns : goal.returns
returns c = queue_tells_due

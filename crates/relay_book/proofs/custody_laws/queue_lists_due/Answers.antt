use Rattle.relay_book.proofs.DueListLaws.{queue_lists_due}
use Rattle.relay_book.proofs.custody_laws.queue_lists_due.Goals as goal

pub returns : goal.returns
returns c = queue_lists_due

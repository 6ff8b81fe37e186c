use Rattle.relay_book.proofs.TimeLaws.{fold_due}
use Rattle.relay_book.proofs.custody_laws.fold_due.Goals as goal

pub returns : goal.returns
returns c = fold_due

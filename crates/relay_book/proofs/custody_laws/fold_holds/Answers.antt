use Rattle.relay_book.proofs.MarkLaws.{fold_holds}
use Rattle.relay_book.proofs.custody_laws.fold_holds.Goals as goal

pub returns : goal.returns
returns c = fold_holds

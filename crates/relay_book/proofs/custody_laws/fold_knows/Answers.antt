use Rattle.relay_book.proofs.MarkLaws.{fold_knows}
use Rattle.relay_book.proofs.custody_laws.fold_knows.Goals as goal

pub returns : goal.returns
returns c = fold_knows

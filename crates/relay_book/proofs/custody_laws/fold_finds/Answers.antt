use Rattle.relay_book.proofs.MarkLaws.{fold_finds}
use Rattle.relay_book.proofs.custody_laws.fold_finds.Goals as goal

pub returns : goal.returns
returns c = fold_finds

use Rattle.relay_book.proofs.MarkLaws.{one_more_holds}
use Rattle.relay_book.proofs.custody_laws.one_more_holds.Goals as goal

pub returns : goal.returns
returns c = one_more_holds

use Rattle.relay_book.proofs.MarkLaws.{exactly_one}
use Rattle.relay_book.proofs.custody_laws.exactly_one.Goals as goal

pub returns : goal.returns
returns c = exactly_one

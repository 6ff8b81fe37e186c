use Rattle.relay_book.proofs.LeavingLemmas.{leaving_is_listed}
use Rattle.relay_book.proofs.custody_laws.leaving_is_listed.Goals as goal

pub returns : goal.returns
returns c = leaving_is_listed

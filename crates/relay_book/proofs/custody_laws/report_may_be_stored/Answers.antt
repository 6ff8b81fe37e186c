use Rattle.relay_book.proofs.StoredLemmas.{report_may_be_stored}
use Rattle.relay_book.proofs.custody_laws.report_may_be_stored.Goals as goal

pub returns : goal.returns
returns c = report_may_be_stored

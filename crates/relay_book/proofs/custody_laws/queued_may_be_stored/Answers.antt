use Rattle.relay_book.proofs.StoredLemmas.{queued_may_be_stored}
use Rattle.relay_book.proofs.custody_laws.queued_may_be_stored.Goals as goal

pub returns : goal.returns
returns c = queued_may_be_stored

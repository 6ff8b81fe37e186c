use Rattle.relay_book.proofs.StoredLemmas.{message_stays}
use Rattle.relay_book.proofs.custody_laws.message_stays.Goals as goal

pub returns : goal.returns
returns c = message_stays

use Rattle.relay_book.proofs.StandLemmas.{queue_is_read}
use Rattle.relay_book.proofs.record_laws.queue_is_read.Goals as goal

pub returns : goal.returns
returns c = queue_is_read

use Rattle.relay_book.proofs.QueueLemmas.{list_is_queue}
use Rattle.relay_book.proofs.record_laws.list_is_queue.Goals as goal

pub returns : goal.returns
returns c = list_is_queue

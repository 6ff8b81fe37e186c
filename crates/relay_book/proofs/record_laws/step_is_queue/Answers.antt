use Rattle.relay_book.proofs.QueueLemmas.{step_is_queue}
use Rattle.relay_book.proofs.record_laws.step_is_queue.Goals as goal

pub returns : goal.returns
returns c = step_is_queue

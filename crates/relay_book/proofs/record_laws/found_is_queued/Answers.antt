use Rattle.relay_book.proofs.QueueLemmas.{found_is_queued}
use Rattle.relay_book.proofs.record_laws.found_is_queued.Goals as goal

pub returns : goal.returns
returns c = found_is_queued

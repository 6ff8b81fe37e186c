use Rattle.std.proofs.Common.{◌∙◌}
use Rattle.relay_book.proofs.FaultLemmas.{no_memory}
use Rattle.relay_book.proofs.book.Book.ready_accept.Goals as goal

pub returns-in_err-accepted-clause-bad : goal.returns-in_err-accepted-clause-bad
returns-in_err-accepted-clause-bad c = no_memory c.from_residual.result c.from_residual.ensures.1

pub returns-in_err-tell_made-clause-bad : goal.returns-in_err-tell_made-clause-bad
returns-in_err-tell_made-clause-bad c = no_memory c.from_residual-in_err-tell_made.result c.from_residual-in_err-tell_made.ensures.1

pub returns-in_err-tell_made-clause-queue : goal.returns-in_err-tell_made-clause-queue
returns-in_err-tell_made-clause-queue c = c.tell_made.ensures.queue

pub returns-in_err-reserve-clause-bad : goal.returns-in_err-reserve-clause-bad
returns-in_err-reserve-clause-bad c = no_memory c.from_residual-in_err-reserve.result c.from_residual-in_err-reserve.ensures.1

pub returns-in_err-reserve-clause-queue : goal.returns-in_err-reserve-clause-queue
returns-in_err-reserve-clause-queue c = c.reserve.ensures.queue ∙ c.tell_made.ensures.queue

pub returns-clause-queue : goal.returns-clause-queue
returns-clause-queue c = c.reserve.ensures.queue ∙ c.tell_made.ensures.queue

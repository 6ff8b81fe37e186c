-- the queue stays
use Rattle.std.proofs.Common.{◌≡◌}
use Rattle.relay_book.proofs.book.Book.forget_fresh.Given as goal

abbrev pub invariant-loop-due : goal.invariant-loop-due
invariant-loop-due l = l.self.queue ≡ l.initial.self.queue

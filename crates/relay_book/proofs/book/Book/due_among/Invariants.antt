-- the marks so far, and those to come
use Rattle.std.proofs.Common.{◌≡◌, ◌++◌}
use Rattle.std.specs.List.{flat_map}
use Rattle.relay_book.specs.Book.{marks_at}
use Rattle.relay_book.specs.Queue.{is_due_at}
use Rattle.relay_book.proofs.book.Book.due_among.Given as goal

abbrev pub invariant-loop-number : goal.invariant-loop-number
invariant-loop-number l =
    l.marks.items ++ flat_map (marks_at (is_due_at l.latest) l.self.queue.messages) l.number-iterator
    ≡ flat_map (marks_at (is_due_at l.latest) l.self.queue.messages) l.numbers.keys

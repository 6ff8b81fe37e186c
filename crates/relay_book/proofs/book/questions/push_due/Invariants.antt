-- what is pushed, and what is to come, is all
use Rattle.std.proofs.Common.{◌≡◌, ◌++◌, drop}
use Rattle.relay_book.specs.Queue.{marks_from, is_due_at}
use Rattle.relay_book.proofs.book.questions.push_due.Given as goal

abbrev pub invariant-loop-index : goal.invariant-loop-index
invariant-loop-index l = l.marks.items ++ marks_from (is_due_at l.latest) l.number l.index (drop l.index l.places) ≡ l.initial.marks.items ++ marks_from (is_due_at l.latest) l.number 0 l.places

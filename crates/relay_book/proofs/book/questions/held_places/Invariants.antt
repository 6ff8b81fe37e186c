-- the places so far, and those to come
use Rattle.std.proofs.Common.{◌≡◌, ◌++◌, drop}
use Rattle.relay_book.specs.Book.{marks_live}
use Rattle.relay_book.specs.Queue.{is_held}
use Rattle.relay_book.proofs.book.questions.held_places.Given as goal

abbrev pub invariant-loop-index : goal.invariant-loop-index
invariant-loop-index l = l.marks.items ++ marks_live is_held (drop l.index l.messages.entries) ≡ marks_live is_held l.messages.entries

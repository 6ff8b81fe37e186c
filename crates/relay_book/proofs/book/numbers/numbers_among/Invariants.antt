-- the numbers so far, and those to come
use Rattle.std.proofs.Common.{◌≡◌, ◌++◌, drop}
use Rattle.relay_book.specs.Book.{numbers_live}
use Rattle.relay_book.proofs.book.numbers.numbers_among.Given as goal

abbrev pub invariant-loop-index : goal.invariant-loop-index
invariant-loop-index g l =
    l.numbers.items ++ numbers_live (g.Q.Question.holds l.question) (drop l.index l.messages.entries) ≡ numbers_live (g.Q.Question.holds l.question) l.messages.entries

-- the keys to come rise, and no place waits by one that went by
use Rattle.std.specs.List.Sorted.{IsStrictlySortedBy}
use Rattle.relay_book.proofs.DueLemmas.{pair_cmp}
use Rattle.relay_book.proofs.MomentLemmas.{AreLeft}
use Rattle.relay_book.proofs.book.Book.first_due_where.Given as goal

abbrev pub invariant-loop-key : goal.invariant-loop-key
invariant-loop-key g l = record {
  rise : IsStrictlySortedBy pair_cmp l.key-iterator;
  left : AreLeft (g.Q.PlaceQuestion.holds l.question) l.self.queue.messages l.self.told l.key-iterator;
}

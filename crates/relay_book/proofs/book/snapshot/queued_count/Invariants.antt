-- the messages so far, and those to come
use Rattle.std.proofs.Common.{◌≡◌, ◌+◌, ◌≤◌, drop, length}
use Rattle.relay_book.specs.Book.{live}
use Rattle.relay_book.proofs.book.snapshot.queued_count.Given as goal

abbrev pub invariant-loop-index : goal.invariant-loop-index
invariant-loop-index l = record {
  counted : l.count + length (live (drop l.index l.messages.entries)) ≡ length (live l.messages.entries);
  within : l.count ≤ l.index;
}

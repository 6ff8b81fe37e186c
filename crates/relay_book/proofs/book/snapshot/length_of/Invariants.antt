-- the octets of the messages so far, and of those to come
use Rattle.std.proofs.Common.{◌≡◌, ◌+◌, ◌-◌, ◌≤◌, ◌^◌, min, drop}
use Rattle.relay_book.specs.Book.{live}
use Rattle.relay_book.specs.SnapshotFields.{entries_length}
use Rattle.relay_book.proofs.book.snapshot.length_of.Given as goal

abbrev pub invariant-loop-index : goal.invariant-loop-index
invariant-loop-index l = record {
  summed :
      min (l.total + entries_length (live (drop l.index l.messages.entries))) (2 ^ 64 - 1)
      ≡ min (13 + entries_length (live l.messages.entries)) (2 ^ 64 - 1);
  within : l.total ≤ 2 ^ 64 - 1;
}

-- what is written, and what is to come
use Rattle.std.proofs.Common.{◌≡◌, ◌++◌, drop}
use Rattle.std.specs.List.{AllByRecursion, flat_map}
use Rattle.relay_book.specs.Book.{live}
use Rattle.relay_book.specs.declared.version.SnapshotVersion.TheVariants.{WithDelay}
use Rattle.relay_book.specs.Snapshot.{IsQueued, entry_octets}
use Rattle.relay_book.proofs.book.snapshot.push_entries.Given as goal

abbrev pub invariant-loop-index : goal.invariant-loop-index
invariant-loop-index l = record {
  written :
      l.out.items ++ flat_map (entry_octets WithDelay) (live (drop l.index l.messages.entries))
      ≡ l.initial.out.items ++ flat_map (entry_octets WithDelay) (live l.messages.entries);
  valid : AllByRecursion IsQueued (live (drop l.index l.messages.entries));
}

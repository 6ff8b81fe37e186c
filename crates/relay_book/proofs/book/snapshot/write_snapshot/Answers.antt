use Rattle.std.proofs.Common.{◌≡◌, length, rules}
use Rattle.relay_book.specs.Book.{live}
use Rattle.relay_book.proofs.SnapshotWriteLemmas.{snapshot_written}
use Rattle.relay_book.proofs.book.snapshot.write_snapshot.Goals as goal

pub returns : goal.returns
returns c =
    let count_is : c.in-Ok.count ≡ length (live c.args.messages.now.entries) = search rules in
    snapshot_written c.args.next c.in-Ok.count (live c.args.messages.now.entries) c.in_ok-out.out.items c.push_1.new.out.items c.push_8.new.out.items
    c.push_4.new.out.items c.push_entries.new.out.items c.in_ok-out.ensures.items c.in_ok-push_1.ensures c.in_ok-push_8.ensures c.in_ok-push_4.ensures
    c.in_ok-push_entries.ensures count_is

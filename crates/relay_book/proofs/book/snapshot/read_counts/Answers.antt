use Rattle.std.proofs.Common.{◌<◌, ◌^◌, rules}
use Rattle.relay_book.proofs.SnapshotReadLemmas.{counts_are, no_count, no_next}
use Rattle.relay_book.proofs.book.snapshot.read_counts.Goals as goal

pub returns-in_err-next : goal.returns-in_err-next
returns-in_err-next c = rw c.from_residual.ensures (no_next c.args.text.now c.in_err-next.ensures)

pub returns-in_err-count : goal.returns-in_err-count
returns-in_err-count c =
    let fits : c.in_ok-next.next < 2 ^ 64 = search rules in
    rw c.from_residual-in_err-count.ensures (no_count c.args.text.now c.in_ok-next.next c.in_ok-next.rest.now c.in_ok-next.ensures fits c.in_err-count.ensures)

pub returns : goal.returns
returns c =
    let next_fits : c.in_ok-next.next < 2 ^ 64 = search rules in
    let count_fits : c.in_ok-count.count < 2 ^ 32 = search rules in
    counts_are c.args.text.now c.in_ok-next.next c.in_ok-next.rest.now c.in_ok-count.count c.in_ok-count.rest.now c.in_ok-next.ensures next_fits c.in_ok-count.ensures count_fits

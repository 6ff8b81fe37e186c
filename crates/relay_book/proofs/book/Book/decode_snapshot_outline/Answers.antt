use Rattle.std.proofs.Common.{arith}
use Rattle.relay_pieces.specs.Pieces.{text_of}
use Rattle.relay_book.proofs.book.Book.decode_snapshot_outline.Goals.{then-next-lt1-via-then-next-lt1, then-next-lt1-via-else-next-lt1+then-next}
use Rattle.relay_book.proofs.FaultLemmas.{fault_passed}
use Rattle.relay_book.proofs.OutlineReadLemmas.{outlines_snapshot}
use Rattle.relay_book.proofs.SnapshotReadLemmas.{bad_entries, bad_head, bad_next}
use Rattle.relay_book.proofs.book.Book.decode_snapshot_outline.Goals as goal

pub returns-clause-snapshot : goal.returns-clause-snapshot
returns-clause-snapshot c =
    let few = c.if-next.false in
    outlines_snapshot c.in_ok-version.version (text_of c.args.octets) c.in_ok-version.next c.in_ok-version.count (text_of c.next_head.new.octets) c.read_entries_outline.new.self.queue
    c.in_ok-version.ensures.head (omega (arith, few)) c.in_ok-read_entries_outline.ensures.next c.in_ok-read_entries_outline.ensures.entries

pub returns-then-next-lt1-clause-bad : goal.returns-then-next-lt1-clause-bad
returns-then-next-lt1-clause-bad c =
    λ _. bad_next c.in_ok-version.version (text_of c.args.octets) c.in_ok-version.next c.in_ok-version.count (text_of c.next_head.new.octets) c.in_ok-version.ensures.head
    (elim c.then-next-lt1.branch [
      | then-next-lt1-via-then-next-lt1 w ↦ (λ some few. let low = w.if-next-lt1.true in omega (arith, some, low))
      | then-next-lt1-via-else-next-lt1+then-next w ↦ (λ some few. let high = w.if-next.true in omega (arith, few, high))
    ])

pub returns-in_err-version-clause-bad : goal.returns-in_err-version-clause-bad
returns-in_err-version-clause-bad c = λ bad. bad_head (text_of c.args.octets) (c.in_err-version.ensures.bad (fault_passed c.from_residual.result _ _ c.from_residual.ensures.1 bad))

pub returns-in_err-read_entries_outline-clause-bad : goal.returns-in_err-read_entries_outline-clause-bad
returns-in_err-read_entries_outline-clause-bad c =
    λ bad. bad_entries c.in_ok-version.version (text_of c.args.octets) c.in_ok-version.next c.in_ok-version.count (text_of c.next_head.new.octets) c.in_ok-version.ensures.head
    (c.in_err-read_entries_outline.ensures.bad (fault_passed c.from_residual-in_err-read_entries_outline.result _ _ c.from_residual-in_err-read_entries_outline.ensures.1 bad))

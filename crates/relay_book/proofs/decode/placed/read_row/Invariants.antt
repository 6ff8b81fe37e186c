-- the recipients and their places so far were read
use Rattle.relay_book.specs.SnapshotFields.{ReadsRow}
use Rattle.relay_book.proofs.decode.placed.read_row.Given as goal

abbrev pub invariant-loop-index : goal.invariant-loop-index
invariant-loop-index l = ReadsRow l.version l.index l.text l.recipients l.places.items l.rest

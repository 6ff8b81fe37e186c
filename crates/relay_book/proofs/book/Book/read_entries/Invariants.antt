-- the messages so far were read into the book
use Rattle.relay_pieces.specs.Pieces.{text_of}
use Rattle.relay_book.specs.SnapshotFields.{ReadsEntries}
use Rattle.relay_book.proofs.book.Book.read_entries.Given as goal

abbrev pub invariant-loop-index : goal.invariant-loop-index
invariant-loop-index l = ReadsEntries l.version l.index l.next (text_of l.fn.text) l.self.queue (text_of l.text)

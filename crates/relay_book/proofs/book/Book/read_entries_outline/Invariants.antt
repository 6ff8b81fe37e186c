-- the messages so far were read, and their outlines are in the book
use Rattle.relay_pieces.specs.Pieces.{text_of}
use Rattle.relay_book.proofs.OutlineReadLemmas.{ReadsOutlined}
use Rattle.relay_book.proofs.book.Book.read_entries_outline.Given as goal

abbrev pub invariant-loop-index : goal.invariant-loop-index
invariant-loop-index l = ReadsOutlined l.version l.index l.next (text_of l.fn.text) l.self.queue (text_of l.text)

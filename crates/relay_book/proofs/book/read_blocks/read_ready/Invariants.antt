-- the messages so far were read, and their outlines are in the book
use Rattle.std.proofs.Common.{◌-◌, ℕ, List}
use Rattle.relay_pieces.specs.Pieces.{text_of}
use Rattle.relay_book.specs.FirstOutline.{ReadsSoFar}
use Rattle.relay_book.proofs.book.read_blocks.read_ready.Given as goal

abbrev pub invariant-loop-index : goal.invariant-loop-index
invariant-loop-index l =
    (octets : List ℕ) → ReadsSoFar l.head.version l.head.next l.head.left octets l.fn.book.queue (text_of l.fn.text)
    → ReadsSoFar l.head.version l.head.next (l.head.left - l.index) octets l.book.queue (text_of l.text)

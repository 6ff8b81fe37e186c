-- the text stays, and fewer pieces are left
use Rattle.std.proofs.Common.{◌≡◌}
use Rattle.relay_pieces.specs.Pieces.{text_of}
use Rattle.relay_book.proofs.decode.entry.next_entry.Given as goal

abbrev pub invariant-loop-message : goal.invariant-loop-message
invariant-loop-message l = text_of l.text ≡ text_of l.fn.text

abbrev pub decreases-loop-message : goal.decreases-loop-message
decreases-loop-message l = l.text.left

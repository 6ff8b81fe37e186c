-- the text stays, and fewer pieces are left
use Rattle.std.proofs.Common.{◌≡◌}
use Rattle.relay_pieces.specs.Pieces.{text_of}
use Rattle.relay_book.proofs.decode.outlined.next_outlined.Given as goal

abbrev pub invariant-loop-outline : goal.invariant-loop-outline
invariant-loop-outline l = text_of l.text ≡ text_of l.fn.text

abbrev pub decreases-loop-outline : goal.decreases-loop-outline
decreases-loop-outline l = l.text.left

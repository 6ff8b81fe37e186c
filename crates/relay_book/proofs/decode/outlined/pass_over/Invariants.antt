-- octets were passed over, and others are missing
use Rattle.relay_pieces.specs.Pieces.{text_of}
use Rattle.relay_book.specs.FirstOutline.{PassesOver}
use Rattle.relay_book.proofs.decode.outlined.pass_over.Given as goal

abbrev pub invariant-loop-missing : goal.invariant-loop-missing
invariant-loop-missing l = PassesOver (text_of l.fn.text) (text_of l.text) l.missing l.count

abbrev pub decreases-loop-missing : goal.decreases-loop-missing
decreases-loop-missing l = l.text.left

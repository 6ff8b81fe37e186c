-- the text stays, and fewer pieces are left
use Rattle.std.proofs.Common.{◌≡◌, ◌≤◌}
use Rattle.relay_pieces.specs.Pieces.{text_of}
use Rattle.relay_pieces.proofs.pieces.Pieces.take_up_to.Given as goal

abbrev pub invariant-loop-self : goal.invariant-loop-self
invariant-loop-self l = (text_of l.self ≡ text_of l.fn.self) × (l.self.left ≤ l.fn.self.left)

abbrev pub decreases-loop-self : goal.decreases-loop-self
decreases-loop-self l = l.self.left

use Rattle.std.proofs.Common.{◌≡◌, ◌++◌, take}
use Rattle.relay_listing.specs.Pieces.{all_spelled}
use Rattle.relay_listing.proofs.pieces.push_pieces.Given as goal

abbrev pub invariant-loop-piece : goal.invariant-loop-piece
invariant-loop-piece l = l.text.items ≡ l.fn.text.items ++ all_spelled (take l.piece-index l.pieces)

-- A text in pieces: the readable octets, and those after them.
use Rattle.std.specs.Prelude.{◌≡◌, ℕ, ◌+◌, ◌<◌, Bool, true, false, List, [], ◌∷◌, ◌++◌, length, drop, Vec}
use Rattle.std.specs.List.{flat_map}
use Rattle.std.specs.declared.alloc.Global.{Global}
use Rattle.relay_pieces.specs.declared.window.Window.{Window}
use Rattle.relay_pieces.specs.Window.{front_of}

-- the readable octets, those after them, and the sum of these octets and their pieces
pub record InPieces : Type 0 where
  pub front : List ℕ
  pub after : List ℕ
  pub left : ℕ

-- the whole text
abbrev pub text_of : InPieces → List ℕ
text_of pieces = pieces.front ++ pieces.after

-- the octets of pieces, one after another
abbrev pub joined : List (Vec ℕ Global) → List ℕ
joined pieces = flat_map (λ (piece : Vec ℕ Global). piece.items) pieces

-- those of the first one
abbrev pub first_of : List (Vec ℕ Global) → List ℕ
first_of [] = []
first_of (piece ∷ pieces) = piece.items

-- a text whose readable octets are these, with these pieces after
abbrev pub in_pieces : Window → List (Vec ℕ Global) → InPieces
in_pieces window pieces =
    let after = drop window.ahead (joined pieces) in
    record { front = front_of window; after = after; left = length after + length pieces }

-- the text is the same, and less follows the readable octets; or nothing followed, and all is the same
abbrev pub TakesUp : InPieces → InPieces → Bool → Type 0
TakesUp old new true = (text_of new ≡ text_of old) × (new.left < old.left)
TakesUp old new false = (new ≡ old) × (old.after ≡ [])

-- The readable octets of a text in pieces, and those that are copies of the next piece's.
use Rattle.std.specs.Prelude.{◌≡◌, ℕ, ◌-◌, ◌≤◌, List, length, take, drop}
use Rattle.relay_pieces.specs.declared.window.Window.{Window}

-- the readable octets
abbrev pub front_of : Window → List ℕ
front_of window = drop window.used window.held.items

-- the last held octets are the first ones of this piece, as many as the window says
pub record Overlaps (window : Window) (piece : List ℕ) : Type 0 where
  pub within : window.ahead ≤ length piece
  pub same : drop (length window.held.items - window.ahead) window.held.items ≡ take window.ahead piece

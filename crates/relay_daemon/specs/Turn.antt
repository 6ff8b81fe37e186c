-- The calls of a turn of a relay.
use Rattle.std.specs.Prelude.{ℕ, List, [], ◌∷◌}
use Rattle.relay_loop.specs.declared.group.Piece.{Piece}
use Rattle.relay_loop.specs.declared.replying.ReplyPiece.{ReplyPiece}
use Rattle.relay_loop.specs.Called.{Accepts, Call, Hears, Writes, WritesToHop}
use Rattle.relay_daemon.specs.declared.turn.Turn.{Turn}

-- a client was accepted, and its greeting written; clients were heard and replies of hops read in one call, and what
-- follows was written to a hop
abbrev pub calls_of
    : (peer : List ℕ) (pieces : List Piece) (replies : List ReplyPiece) (slot now : ℕ) → Turn → List Call
calls_of peer pieces replies slot now turn =
    Accepts peer turn.session ∷ Writes turn.session turn.greeted ∷ Hears pieces replies now turn.group
    ∷ WritesToHop slot turn.written ∷ []

-- the sessions so far, and those to come
use Rattle.std.proofs.Common.{◌≡◌, ◌++◌, drop, map}
use Rattle.relay_connections.specs.Hearing.{session_of}
use Rattle.relay_connections.proofs.hearing.sessions_of.Given as goal

abbrev pub invariant-loop-piece : goal.invariant-loop-piece
invariant-loop-piece l = l.sessions.items ++ map session_of (drop l.piece-index l.pieces) ≡ map session_of l.pieces

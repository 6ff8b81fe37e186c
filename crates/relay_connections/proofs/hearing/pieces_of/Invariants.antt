-- each piece so far is all that its own session's client has to be heard, and those to come are of the slots after
use Rattle.std.proofs.Common.{◌≡◌, ◌+◌, ◌-◌, ◌++◌, All, length, map}
use Rattle.std.specs.List.{filter}
use Rattle.relay_connections.specs.Hearing.{IsOwn, hearing_from, hears_at, session_of, turned}
use Rattle.relay_connections.proofs.hearing.pieces_of.Given as goal

abbrev pub invariant-loop-step : goal.invariant-loop-step
invariant-loop-step g l =
    All (IsOwn l.clients) l.pieces.items
    × (map session_of l.pieces.items ++ filter (hears_at l.clients) (turned (length l.clients) (l.first + l.step) (length l.clients - l.step)) ≡ hearing_from l.clients l.first)

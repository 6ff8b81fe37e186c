-- the pieces so far are counted
use Rattle.std.proofs.Common.{◌≡◌, ◌+◌, ◌-◌, ◌^◌, ◌≤◌, length, min, take}
use Rattle.relay_pieces.specs.Pieces.{joined}
use Rattle.relay_pieces.specs.Window.{front_of}
use Rattle.relay_pieces.proofs.pieces.Pieces.len.Given as goal

abbrev pub invariant-loop-index : goal.invariant-loop-index
invariant-loop-index l =
    let after = joined (take l.index l.self-inside.rest.items) in
    (l.total ≡ min (length (front_of l.self-inside.window) + (length after - l.self-inside.window.ahead)) (2 ^ 64 - 1))
    × (l.self-inside.window.ahead ≤ length after)

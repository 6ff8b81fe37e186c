-- the pieces so far are answered, and there is memory for the other answers
use Rattle.std.proofs.Common.{◌+◌, ◌-◌, ◌≤◌, length, take}
use Rattle.std.specs.Vec.{vec_capacity, vec_len}
use Rattle.relay_loop.proofs.EachLemmas.{Goes}
use Rattle.relay_loop.proofs.relay.Relay.read_each.Given as goal

abbrev pub invariant-loop-piece : goal.invariant-loop-piece
invariant-loop-piece g l = record {
  goes : Goes g.D.Disk.honest g.D.Disk.words l.now l.initial.self l.initial.row (take l.piece-index l.pieces) l.heard.items l.self l.row;
  room : vec_len l.heard + (length l.pieces - l.piece-index) ≤ vec_capacity l.heard;
}

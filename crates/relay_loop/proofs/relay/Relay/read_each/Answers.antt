-- A piece more is answered.
use Rattle.std.proofs.Common.{◌<◌, List, [], ◌∷◌, ◌++◌, length, take, get_or, Result, sym, subst, arith}
use Rattle.std.proofs.lemmas.List.{take_more}
use Rattle.relay_records.specs.declared.fault.NodeFault.{NodeFault}
use Rattle.relay_loop.specs.declared.clients.Heard.{Heard}
use Rattle.relay_loop.specs.declared.group.Piece.{Piece}
use Rattle.relay_loop.proofs.EachLemmas.{Goes, goes_on, no_piece}
use Rattle.relay_loop.proofs.relay.Relay.read_each.Goals as goal

pub loop-piece-preserved : goal.loop-piece-preserved
loop-piece-preserved g c =
    let index : c.loop-piece.piece-index < length c.args.pieces.now = omega arith in
    let front = take c.loop-piece.piece-index c.args.pieces.now in
    let piece = get_or c.args.pieces.now c.loop-piece.piece-index no_piece in
    let answer = c.read_into-answer.ensures in
    let goes =
    goes_on g.D.Disk.honest g.D.Disk.words c.args.now c.args.self.now c.args.row.now c.loop-piece.self c.read_into-answer.new.self c.loop-piece.row c.read_into-answer.new.row piece c.read_into-answer.result
    answer.answers answer.hears answer.only answer.undone answer.room front c.loop-piece.heard.items c.loop-piece.invariant.goes in
    let room = c.loop-piece.invariant.room in
    let grows = c.push_reserved.ensures.len in
    let keeps = c.push_reserved.ensures.capacity in
    record {
      goes =
          subst (λ (l : List Piece). Goes g.D.Disk.honest g.D.Disk.words c.args.now c.args.self.now c.args.row.now l c.push_reserved.new.self.items c.read_into-answer.new.self c.read_into-answer.new.row)
          (sym (take_more c.args.pieces.now c.loop-piece.piece-index no_piece index))
          (subst (λ (l : List (Result Heard NodeFault)). Goes g.D.Disk.honest g.D.Disk.words c.args.now c.args.self.now c.args.row.now (front ++ piece ∷ []) l c.read_into-answer.new.self c.read_into-answer.new.row) {y = c.push_reserved.new.self.items} (sym {A = List (Result Heard NodeFault)} c.push_reserved.ensures.items) goes);
      room = omega (arith, index, room, grows, keeps);
    }

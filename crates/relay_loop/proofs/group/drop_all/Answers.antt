-- One connection more is gone.
use Rattle.std.proofs.Common.{◌<◌, List, length, take, get_or, refl, sym, subst, arith}
use Rattle.std.proofs.lemmas.List.{take_all, take_more}
use Rattle.relay_loop.specs.declared.group.Piece.{Piece}
use Rattle.relay_loop.specs.GroupPieces.{AreOfOthers}
use Rattle.relay_loop.specs.Groups.{AllAreGone}
use Rattle.relay_loop.proofs.EachLemmas.{AreDropped, dropped_more, no_piece}
use Rattle.relay_loop.proofs.group.drop_all.Goals as goal

pub loop-piece-init : goal.loop-piece-init
loop-piece-init c = record { gone = tt; others = λ session all. refl }

pub loop-piece-preserved : goal.loop-piece-preserved
loop-piece-preserved c =
    let index : c.loop-piece.piece-index < length c.args.pieces.now = omega arith in
    let front = take c.loop-piece.piece-index c.args.pieces.now in
    let piece = get_or c.args.pieces.now c.loop-piece.piece-index no_piece in
    let so = c.loop-piece.invariant in
    let more = dropped_more (λ (p : Piece). p.session) c.args.clients.now c.loop-piece.clients c.remove.new.self front piece (record { gone = so.gone; others = so.others }) c.remove.ensures.gone c.remove.ensures.others in
    let all = subst (λ (l : List Piece). AreDropped (λ (p : Piece). p.session) c.args.clients.now c.remove.new.self l) (sym (take_more c.args.pieces.now c.loop-piece.piece-index no_piece index)) more in
    record { gone = all.gone; others = all.others }

pub returns-clause-gone : goal.returns-clause-gone
returns-clause-gone c =
    subst (λ (l : List Piece). AllAreGone c.loop-piece.clients l) (take_all c.loop-piece.piece-index c.args.pieces.now (omega arith)) c.loop-piece.invariant.gone

pub returns-clause-others : goal.returns-clause-others
returns-clause-others c = λ session all.
    c.loop-piece.invariant.others session
    (subst (λ (l : List Piece). AreOfOthers session l) (sym (take_all c.loop-piece.piece-index c.args.pieces.now (omega arith))) all)

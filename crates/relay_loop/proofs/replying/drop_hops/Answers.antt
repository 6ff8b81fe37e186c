-- One connection more is gone.
use Rattle.std.proofs.Common.{◌<◌, List, length, take, get_or, refl, sym, subst, arith}
use Rattle.std.proofs.lemmas.List.{take_all, take_more}
use Rattle.relay_loop.specs.declared.replying.ReplyPiece.{ReplyPiece}
use Rattle.relay_loop.specs.GroupReplies.{AreToOthers}
use Rattle.relay_loop.specs.Groups.{HopsAreGone}
use Rattle.relay_loop.proofs.EachLemmas.{AreDropped, dropped_more}
use Rattle.relay_loop.proofs.EachReplyLemmas.{no_reply}
use Rattle.relay_loop.proofs.replying.drop_hops.Goals as goal

pub loop-reply-init : goal.loop-reply-init
loop-reply-init c = record { gone = tt; others = λ attempt all. refl }

pub loop-reply-preserved : goal.loop-reply-preserved
loop-reply-preserved c =
    let index : c.loop-reply.reply-index < length c.args.replies.now = omega arith in
    let front = take c.loop-reply.reply-index c.args.replies.now in
    let reply = get_or c.args.replies.now c.loop-reply.reply-index no_reply in
    let so = c.loop-reply.invariant in
    let more = dropped_more (λ (p : ReplyPiece). p.attempt) c.args.hops.now c.loop-reply.hops c.remove.new.self front reply (record { gone = so.gone; others = so.others }) c.remove.ensures.gone c.remove.ensures.others in
    let all = subst (λ (l : List ReplyPiece). AreDropped (λ (p : ReplyPiece). p.attempt) c.args.hops.now c.remove.new.self l) (sym (take_more c.args.replies.now c.loop-reply.reply-index no_reply index)) more in
    record { gone = all.gone; others = all.others }

pub returns-clause-gone : goal.returns-clause-gone
returns-clause-gone c =
    subst (λ (l : List ReplyPiece). HopsAreGone c.loop-reply.hops l) (take_all c.loop-reply.reply-index c.args.replies.now (omega arith)) c.loop-reply.invariant.gone

pub returns-clause-others : goal.returns-clause-others
returns-clause-others c = λ attempt all.
    c.loop-reply.invariant.others attempt
    (subst (λ (l : List ReplyPiece). AreToOthers attempt l) (sym (take_all c.loop-reply.reply-index c.args.replies.now (omega arith))) all)

-- A reply more is answered.
use Rattle.std.proofs.Common.{◌<◌, List, [], ◌∷◌, ◌++◌, length, take, get_or, Result, sym, subst, arith}
use Rattle.std.proofs.lemmas.List.{take_more}
use Rattle.relay_records.specs.declared.fault.NodeFault.{NodeFault}
use Rattle.relay_loop.specs.declared.hops.Answered.{Answered}
use Rattle.relay_loop.specs.declared.replying.ReplyPiece.{ReplyPiece}
use Rattle.relay_loop.proofs.EachReplyLemmas.{Goes, goes_on, no_reply}
use Rattle.relay_loop.proofs.relay.Relay.reply_each.Goals as goal

pub loop-reply-preserved : goal.loop-reply-preserved
loop-reply-preserved g c =
    let index : c.loop-reply.reply-index < length c.args.replies.now = omega arith in
    let front = take c.loop-reply.reply-index c.args.replies.now in
    let reply = get_or c.args.replies.now c.loop-reply.reply-index no_reply in
    let answer = c.reply_into-answer.ensures in
    let goes =
    goes_on g.D.Disk.honest g.D.Disk.words c.args.now c.args.self.now c.args.row.now c.loop-reply.self c.reply_into-answer.new.self c.loop-reply.row c.reply_into-answer.new.row reply c.reply_into-answer.result
    answer.answers answer.reads answer.only answer.undone answer.room front c.loop-reply.answered.items c.loop-reply.invariant.goes in
    let room = c.loop-reply.invariant.room in
    let grows = c.push_reserved.ensures.len in
    let keeps = c.push_reserved.ensures.capacity in
    record {
      goes =
          subst (λ (l : List ReplyPiece). Goes g.D.Disk.honest g.D.Disk.words c.args.now c.args.self.now c.args.row.now l c.push_reserved.new.self.items c.reply_into-answer.new.self c.reply_into-answer.new.row)
          (sym (take_more c.args.replies.now c.loop-reply.reply-index no_reply index))
          (subst (λ (l : List (Result Answered NodeFault)). Goes g.D.Disk.honest g.D.Disk.words c.args.now c.args.self.now c.args.row.now (front ++ reply ∷ []) l c.reply_into-answer.new.self c.reply_into-answer.new.row) {y = c.push_reserved.new.self.items} (sym {A = List (Result Answered NodeFault)} c.push_reserved.ensures.items) goes);
      room = omega (arith, index, room, grows, keeps);
    }

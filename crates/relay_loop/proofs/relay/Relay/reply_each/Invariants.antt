-- the replies so far are answered, and there is room for the other answers
use Rattle.std.proofs.Common.{◌+◌, ◌-◌, ◌≤◌, length, take}
use Rattle.std.specs.Vec.{vec_capacity, vec_len}
use Rattle.relay_loop.proofs.EachReplyLemmas.{Goes}
use Rattle.relay_loop.proofs.relay.Relay.reply_each.Given as goal

abbrev pub invariant-loop-reply : goal.invariant-loop-reply
invariant-loop-reply g l = record {
  goes : Goes g.D.Disk.honest g.D.Disk.words l.now l.initial.self l.initial.row (take l.reply-index l.replies) l.answered.items l.self l.row;
  room : vec_len l.answered + (length l.replies - l.reply-index) ≤ vec_capacity l.answered;
}

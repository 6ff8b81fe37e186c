use Rattle.relay_lines.specs.Reply.{made_of}
use Rattle.relay_lines.proofs.ReplyReadingLemmas.{next_followed, next_is_reply, next_made, parts_are_none}
use Rattle.relay_lines.proofs.reply_reader.ReplyReader.end_line.Goals as goal

pub returns-clause-made : goal.returns-clause-made
returns-clause-made c = λ line ended.
    let front = c.in_ok-front.front in
    let next = rw (c.octets.ensures, c.if-front.false) at c.in_ok-front.ensures.ok in
    next_followed c.args.self.now c.keep_line.new.self line front.code ended next c.in_ok-keep_line.ensures

pub returns-then-is_none-clause-err : goal.returns-then-is_none-clause-err
returns-then-is_none-clause-err c = λ line ended.
    let front = c.in_ok-front.front in
    let next = rw (c.octets.ensures, c.if-front.true) at c.in_ok-front.ensures.ok in
    let none =
    parts_are_none c.take_reply-reply.result
    (made_of c.keep_line.new.self.code c.keep_line.new.self.lines.items) c.if-is_none.ensures c.take_reply-reply.ensures.reply in
    absurd
    (none (next_is_reply c.args.self.now c.keep_line.new.self line front.code ended next c.in_ok-keep_line.ensures))

pub returns-then-front-clause-made : goal.returns-then-front-clause-made
returns-then-front-clause-made c = λ line ended.
    let front = c.in_ok-front.front in
    let next = rw (c.octets.ensures, c.if-front.true) at c.in_ok-front.ensures.ok in
    next_made c.args.self.now c.keep_line.new.self c.take_reply-reply.new.self c.take_reply-reply.result line front.code ended next c.in_ok-keep_line.ensures c.take_reply-reply.ensures.gives c.if-is_none.ensures c.take_reply-reply.ensures.reply

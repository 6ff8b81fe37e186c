-- The last chunk ends the content, and another is one more.
use Rattle.std.proofs.Common.{subst, sym}
use Rattle.relay_body.specs.ChunkText.{content_of_chunks}
use Rattle.relay_server.specs.ReplyTable.{Course, unless_refused}
use Rattle.relay_server.specs.Machine.{EndsBy}
use Rattle.relay_server.specs.Setup.{setup_of}
use Rattle.relay_server.proofs.ChunkLemmas.{last_chunk, next_chunk}
use Rattle.relay_server.proofs.SessionLemmas.{if_ok}
use Rattle.relay_server.proofs.server.Server.end_chunk.Goals as goal

pub returns-then-is_last-clause-ends : goal.returns-then-is_last-clause-ends
returns-then-is_last-clause-ends c =
    let limit = c.args.self.now.max_content in
    let client = c.args.transaction.client in
    let envelope = c.args.transaction.envelope in
    if_ok _ _ c.end_text.result (λ stage ends. λ routes chunks has.
    let content = content_of_chunks chunks in
    subst (λ (course : Course). EndsBy (setup_of c.args.self.now routes) (unless_refused c.args.self.now.bare_newlines course) stage c.args.out.now.items c.end_text.new.out.items)
    (last_chunk limit client envelope content c.is_too_large.result c.args.is_last c.if-is_last.true c.if-is_too_large.false (c.is_too_large.ensures.passes limit content has.gathers))
    (ends routes content (c.finish.ensures.content limit chunks has))) c.end_text.ensures.ends

pub returns-clause-ends : goal.returns-clause-ends
returns-clause-ends c =
    let limit = c.args.self.now.max_content in
    let client = c.args.transaction.client in
    let envelope = c.args.transaction.envelope in
    if_ok _ _ c.reply-2.result (λ stage enters. λ routes chunks has.
    let content = content_of_chunks chunks in
    subst (λ (course : Course). EndsBy (setup_of c.args.self.now routes) (unless_refused c.args.self.now.bare_newlines course) stage c.args.out.now.items c.reply-2.new.out.items)
    (sym (next_chunk limit client envelope c.args.reader content c.is_too_large.result c.args.is_last c.if-is_last.false c.if-is_too_large.false (c.is_too_large.ensures.passes limit content has.gathers) has.gathers))
    (enters routes)) c.reply-2.ensures.enters

-- A chunk goes on, or ends and is answered.
use Rattle.std.proofs.Common.{◌++◌, take, inl, refl}
use Rattle.relay_body.specs.ChunkText.{content_of_chunks}
use Rattle.relay_server.specs.ReplyTable.{course_of_chunks, unless_refused}
use Rattle.relay_server.specs.Setup.{setup_of}
use Rattle.relay_server.proofs.ChunkLemmas.{chunk_ends, chunk_goes_on}
use Rattle.relay_server.proofs.SessionLemmas.{comes_and_ends}
use Rattle.relay_server.proofs.server.Server.read_chunk.Goals as goal

pub returns-in_ok-stage-in-Ok-clause-moves : goal.returns-in_ok-stage-in-Ok-clause-moves
returns-in_ok-stage-in-Ok-clause-moves c = λ routes state octets kept.
    let limit = c.args.self.now.max_content in
    let setup = setup_of c.args.self.now routes in
    let transaction = c.args.transaction in
    let is_last = c.args.is_last in
    let more = take c.in-Ok.cut.used c.args.rest.now in
    let feeds = c.in-Ok.ensures.feeds in
    let now = chunk_goes_on limit transaction c.args.reader c.feed.new.self is_last state octets more kept (feeds.uses limit kept.chunks _ kept.chunk_is) in
    let ended = chunk_ends setup transaction c.feed.new.self is_last state (octets ++ more) now (feeds.done.0 c.if-cut.true) in
    comes_and_ends setup state (octets ++ more)
    (unless_refused setup.bare_newlines (course_of_chunks limit transaction.client transaction.envelope (content_of_chunks ended.chunks) is_last))
    c.in_ok-stage-in-Ok.stage c.args.out.now.items c.end_chunk.new.out.items ended.comes (c.in_ok-stage-in-Ok.ensures.ends routes ended.chunks ended.has)

pub returns-else-cut-clause-moves : goal.returns-else-cut-clause-moves
returns-else-cut-clause-moves c = λ routes state octets kept.
    let limit = c.args.self.now.max_content in
    let more = take c.in-Ok.cut.used c.args.rest.now in
    inl (record {
      kept = chunk_goes_on limit c.args.transaction c.args.reader c.feed.new.self c.args.is_last state octets more kept (c.in-Ok.ensures.feeds.uses limit kept.chunks _ kept.chunk_is);
      nothing_written = refl;
    })

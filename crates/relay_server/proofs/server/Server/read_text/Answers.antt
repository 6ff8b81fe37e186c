-- Where the text ends, it has been read whole.
use Rattle.std.proofs.Common.{◌++◌, take, refl}
use Rattle.relay_server.specs.ReplyTable.{course_of_text, unless_refused}
use Rattle.relay_server.specs.Setup.{setup_of}
use Rattle.relay_server.specs.State.{Receiving}
use Rattle.relay_server.proofs.SessionLemmas.{comes_and_ends}
use Rattle.relay_server.proofs.server.Server.read_text.Goals as goal

pub returns-in_ok-stage-in-Ok-clause-moves : goal.returns-in_ok-stage-in-Ok-clause-moves
returns-in_ok-stage-in-Ok-clause-moves c = λ routes octets reading.
    let text = octets ++ take c.in-Ok.cut.used c.args.rest.now in
    let limit = c.args.self.now.max_content in
    let transaction = c.args.mail.transaction in
    let parts = c.into_parts-transaction.ensures in
    let whole = rw c.if-cut.true at (c.in-Ok.ensures.feeds.uses.stands limit octets (rw parts.1 reading)) in
    let content = whole.0 in
    comes_and_ends (setup_of c.args.self.now routes) (Receiving transaction.client transaction.envelope) text
    (unless_refused c.args.self.now.bare_newlines (course_of_text limit transaction.client transaction.envelope content))
    c.in_ok-stage-in-Ok.stage c.args.out.now.items c.end_text.new.out.items
    (record { content = content; reads = whole.1.reads; course_is = refl })
    (rw parts.0 at c.in_ok-stage-in-Ok.ensures.ends routes content (c.finish.ensures.content limit text content whole.1))

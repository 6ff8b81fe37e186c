-- A session is a link of a new node, or nothing where there is no node.
use Rattle.std.proofs.Common.{[], subst}
use Rattle.relay_disk.specs.Memory.{memory_words}
use Rattle.relay_links.specs.Link.{HasBegun, HasServed, start_at}
use Rattle.relay_program.specs.Setup.{session_peer}
use Rattle.relay_program.proofs.SessionLemmas.{begun, begun_nothing, on_err, served}
use Rattle.relay_program.proofs.streams.session.Goals as goal

pub returns-in_err-node-clause-begun : goal.returns-in_err-node-clause-begun
returns-in_err-node-clause-begun g c = on_err _ _ (begun_nothing _ _)

pub returns-in-Ok-clause-served : goal.returns-in-Ok-clause-served
returns-in-Ok-clause-served g c =
    let left = g.R.Read.remaining c.args.reader.now in
    let held = g.W.Write.contents c.args.writer.now in
    let node = c.in_ok-node.node in
    let opened = c.in_ok-node.ensures in
    let link = c.in-Ok.ensures.served [] session_peer opened.keeps opened.says in
    served left held node opened.profile opened.size _ _ _
    (subst (λ at. HasServed (Unit {0}) memory_words (start_at left held session_peer node []) at (g.R.Read.remaining c.serve_link.new.reader) (g.W.Write.contents c.serve_link.new.writer) c.serve_link.new.node.records) c.moment.ensures link)

pub returns-clause-begun : goal.returns-clause-begun
returns-clause-begun g c =
    let left = g.R.Read.remaining c.args.reader.now in
    let held = g.W.Write.contents c.args.writer.now in
    let node = c.in_ok-node.node in
    let opened = c.in_ok-node.ensures in
    let link = c.in-Err.ensures.served [] session_peer opened.keeps opened.says in
    begun left held node opened.profile opened.size _ _ _ c.in-Err.fault
    (subst (λ at. HasBegun (Unit {0}) memory_words (start_at left held session_peer node []) at (g.R.Read.remaining c.serve_link.new.reader) (g.W.Write.contents c.serve_link.new.writer) c.serve_link.new.node.records c.in-Err.fault) c.moment.ensures link)

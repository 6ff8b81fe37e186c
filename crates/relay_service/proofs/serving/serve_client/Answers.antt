-- A client is served from where it connected, or refused before anything was said.
use Rattle.std.proofs.Common.{Err, ap, subst, sym, ◌∙◌, true≢false}
use Rattle.relay_routes.specs.declared.config.Config.{Config}
use Rattle.relay_records.specs.Records.{Keeps, Kept}
use Rattle.relay_node.specs.Node.{SeatHasSaid, greeted_by}
use Rattle.relay_links.specs.declared.fault.LinkFault.TheVariants.{NoMemory}
use Rattle.relay_links.specs.Link.{HasBegun, LinkHasEnded, Start, start_at}
use Rattle.relay_service.proofs.ClientLemmas.{refused, same_start}
use Rattle.relay_service.proofs.serving.serve_client.Goals as goal

pub returns-in-Ok-clause-served : goal.returns-in-Ok-clause-served
returns-in-Ok-clause-served g c = λ changes keeps.
    let opened = c.in-Ok.ensures.connects in
    let same = c.in-Ok.ensures.rest in
    let left = g.R.Read.remaining c.args.reader.now in
    let held = g.W.Write.contents c.args.writer.now in
    let here = subst (λ (records : Kept _). Keeps g.D.Disk.honest g.D.Disk.words records changes) (sym same.0) keeps in
    let says = subst (λ (config : Config). SeatHasSaid config c.connect.new.self.seats c.in-Ok.connected.session c.args.peer (greeted_by c.in-Ok.connected.out.items)) (sym same.1) opened.says in
    subst (λ (start : Start). LinkHasEnded g.D.Disk.honest g.D.Disk.words start c.args.now (g.R.Read.remaining c.serve_link.new.reader) (g.W.Write.contents c.serve_link.new.writer) c.serve_link.new.node.records c.serve_link.result) (same_start left held c.args.peer c.args.node.now c.connect.new.self changes same.0 same.1)
    (c.serve_link.ensures.served changes c.args.peer here says)

pub returns-in-Err-Stopped-clause-served : goal.returns-in-Err-Stopped-clause-served
returns-in-Err-Stopped-clause-served g c = λ changes keeps.
    absurd (true≢false (sym keeps.live ∙ c.in-Err-Stopped.ensures.stopped.0 (ap (λ fault. Err fault) c.in-Err-Stopped.field-0-is)))

pub returns-in-Err-clause-served : goal.returns-in-Err-clause-served
returns-in-Err-clause-served g c = λ changes keeps.
    let left = g.R.Read.remaining c.args.reader.now in
    let held = g.W.Write.contents c.args.writer.now in
    subst (λ (records : Kept _). HasBegun g.D.Disk.honest g.D.Disk.words (start_at left held c.args.peer c.args.node.now changes) c.args.now left held records NoMemory) (sym c.in-Err.ensures.rest.0)
    (refused g.D.Disk.honest g.D.Disk.words c.args.now left held c.args.peer c.args.node.now changes keeps)

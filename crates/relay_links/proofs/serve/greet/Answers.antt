-- The greeting, and what follows it.
use Rattle.std.proofs.Common.{◌≡◌, ◌∙◌, rules, subst, sym}
use Rattle.std.specs.Io.KnownBytes.{Appends}
use Rattle.relay_links.specs.Link.{HasBegun, start_at}
use Rattle.relay_links.proofs.LinkLemmas.{begun, started}
use Rattle.relay_links.proofs.serve.greet.Goals as goal

pub returns-in-Ok-clause-served : goal.returns-in-Ok-clause-served
returns-in-Ok-clause-served g c = λ changes peer keeps says.
    let text : c.as_slice.result.now ≡ c.args.connected.now.out.items = search rules in
    let wrote = subst (Appends (g.W.Write.contents c.args.writer.now) (g.W.Write.contents c.send.new.writer)) text c.in-Ok.ensures.ok in
    c.converse.ensures.served _ (started g.D.Disk.honest g.D.Disk.words c.args.now c.args.connected.now.session (g.R.Read.remaining c.args.reader.now) (g.W.Write.contents c.args.writer.now) _ peer c.args.node.now changes c.args.connected.now.out.items keeps says wrote)

pub returns-in-Err-clause-served : goal.returns-in-Err-clause-served
returns-in-Err-clause-served g c = λ changes peer keeps says.
    let text : c.as_slice.result.now ≡ c.args.connected.now.out.items = search rules in
    let sent = c.in-Err.ensures.err in
    subst (HasBegun g.D.Disk.honest g.D.Disk.words (start_at (g.R.Read.remaining c.args.reader.now) (g.W.Write.contents c.args.writer.now) peer c.args.node.now changes) c.args.now (g.R.Read.remaining c.args.reader.now) (g.W.Write.contents c.send.new.writer) c.args.node.now.records) (sym c.in-Err.ensures.output)
    (begun g.D.Disk.honest g.D.Disk.words c.args.now c.args.connected.now.session _ _ _ peer c.args.node.now changes c.args.connected.now.out.items keeps says sent.0 sent.1 (sym text ∙ sent.2) sent.3)

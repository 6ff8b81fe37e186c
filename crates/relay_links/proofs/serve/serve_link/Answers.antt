-- A link that was greeted, and then hung up.
use Rattle.std.proofs.Common.{sym, subst, MatchResult}
use Rattle.relay_records.specs.Records.{Kept}
use Rattle.relay_links.specs.Link.{HasBegun, HasServed, start_at}
use Rattle.relay_links.proofs.serve.serve_link.Goals as goal

pub returns-clause-served : goal.returns-clause-served
returns-clause-served g c = λ changes peer keeps says.
    let start = start_at (g.R.Read.remaining c.args.reader.now) (g.W.Write.contents c.args.writer.now) peer c.args.node.now changes in
    subst (λ (records : Kept _). MatchResult c.greet-result.result (λ _. HasServed g.D.Disk.honest g.D.Disk.words start c.args.now (g.R.Read.remaining c.greet-result.new.reader) (g.W.Write.contents c.greet-result.new.writer) records) (λ fault. HasBegun g.D.Disk.honest g.D.Disk.words start c.args.now (g.R.Read.remaining c.greet-result.new.reader) (g.W.Write.contents c.greet-result.new.writer) records fault)) (sym c.hang_up.ensures.records)
    (c.greet-result.ensures.served changes peer keeps says)

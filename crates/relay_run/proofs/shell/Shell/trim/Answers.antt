-- The node keeps the same changes, and nothing else has changed.
use Rattle.std.proofs.Common.{None}
use Rattle.relay_records.specs.Records.{Halted}
use Rattle.relay_connections.specs.Readiness.{clients_of}
use Rattle.relay_run.proofs.TidyLemmas.{trimmed_serves}
use Rattle.relay_run.proofs.shell.Shell.trim.Goals as goal

pub returns-clause-served : goal.returns-clause-served
returns-clause-served g c = λ changes setting served.
    let honest = g.D.Disk.honest in
    let words = g.D.Disk.words in
    trimmed_serves honest words g.S.Stream.remaining g.S.Stream.contents changes setting (clients_of c.args.self.now.clients) c.args.self.now.relay c.trim.new.relay c.trim.result
    (λ _. Halted honest words c.trim.new.relay.node.records changes None) c.trim.ensures.trimmed (c.trim.ensures.kept changes served.keeps) served

-- Whether the spool was compacted or not, the node keeps the same changes, and nothing else has changed.
use Rattle.relay_connections.specs.Readiness.{clients_of}
use Rattle.relay_run.proofs.TidyLemmas.{tidied_serves}
use Rattle.relay_run.proofs.shell.Shell.tidy.Goals as goal

pub returns-then-branch-clause-served : goal.returns-then-branch-clause-served
returns-then-branch-clause-served g c = λ changes setting served.
    tidied_serves g.D.Disk.honest g.D.Disk.words g.S.Stream.remaining g.S.Stream.contents changes setting (clients_of c.args.self.now.clients) c.args.self.now.relay c.tidy.new.relay
    c.args.self.now.tidying.was_full _ c.in_ok-tidy.ensures.unchanged c.in_ok-tidy.ensures.compacted (c.in_ok-tidy.ensures.kept changes served.keeps) served

pub returns-else-branch-clause-served : goal.returns-else-branch-clause-served
returns-else-branch-clause-served g c = λ changes setting served.
    tidied_serves g.D.Disk.honest g.D.Disk.words g.S.Stream.remaining g.S.Stream.contents changes setting (clients_of c.args.self.now.clients) c.args.self.now.relay c.tidy.new.relay
    c.args.self.now.tidying.was_full _ c.in_ok-tidy.ensures.unchanged c.in_ok-tidy.ensures.compacted (c.in_ok-tidy.ensures.kept changes served.keeps) served

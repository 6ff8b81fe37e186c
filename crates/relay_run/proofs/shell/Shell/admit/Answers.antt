-- While a reload waits, no client comes.
use Rattle.std.proofs.Common.{refl}
use Rattle.relay_connections.specs.Readiness.{clients_of}
use Rattle.relay_run.proofs.ServedLemmas.{more_none}
use Rattle.relay_run.proofs.shell.Shell.admit.Goals as goal

pub returns-then-is_reloading-clause-served : goal.returns-then-is_reloading-clause-served
returns-then-is_reloading-clause-served g c = λ changes setting served.
    more_none g.D.Disk.honest g.D.Disk.words g.S.Stream.remaining g.S.Stream.contents changes setting (clients_of c.args.self.now.clients) (clients_of c.args.self.now.clients) c.args.self.now.relay c.args.self.now.relay refl refl served

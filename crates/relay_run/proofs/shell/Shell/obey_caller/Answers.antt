-- Where nobody may steer, nothing is asked for.
use Rattle.relay_connections.specs.Readiness.{clients_of}
use Rattle.relay_run.proofs.ServedLemmas.{on_same}
use Rattle.relay_run.proofs.shell.Shell.obey_caller.Goals as goal

pub returns-in_default : goal.returns-in_default
returns-in_default g c = record {
  served = λ changes setting served.
      on_same g.D.Disk.honest g.D.Disk.words g.S.Stream.remaining g.S.Stream.contents changes setting (clients_of c.args.self.now.clients) c.args.self.now.relay served;
  matches = λ matches. matches;
}

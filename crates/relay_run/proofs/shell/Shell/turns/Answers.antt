-- At first they are served; one turn more leaves them so.
use Rattle.relay_connections.specs.Readiness.{clients_of}
use Rattle.relay_run.proofs.TurnsLemmas.{later_none, turned_once}
use Rattle.relay_run.proofs.shell.Shell.turns.Goals as goal

pub loop-init : goal.loop-init
loop-init g c = (
  λ changes setting served.
      later_none g.D.Disk.honest g.D.Disk.words g.S.Stream.remaining g.S.Stream.contents changes setting (clients_of c.args.self.clients) c.args.self.relay served,
  λ matches. matches,
)

pub loop-preserved : goal.loop-preserved
loop-preserved g c = (
  λ changes setting served.
      turned_once g.D.Disk.honest g.D.Disk.words g.S.Stream.remaining g.S.Stream.contents changes setting (clients_of c.loop.shell.clients) (clients_of c.in_ok-shell.shell.clients) c.loop.shell.relay c.in_ok-shell.shell.relay
      c.in_ok-shell.ensures.served (c.loop.invariant.0 changes setting served),
  λ matches. c.in_ok-shell.ensures.matches (c.loop.invariant.1 matches),
)

pub returns : goal.returns
returns g c = record { served = c.loop.invariant.0; matches = c.loop.invariant.1 }

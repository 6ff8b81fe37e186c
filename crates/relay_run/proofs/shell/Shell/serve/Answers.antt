-- It comes to its end when it has drained, and else with a fault; one turn more leaves clients served.
use Rattle.std.proofs.Common.{ap}
use Rattle.relay_connections.specs.Readiness.{clients_of}
use Rattle.relay_connections.specs.declared.clients.Clients.{Clients}
use Rattle.relay_run.proofs.HopsLemmas.{hops_still}
use Rattle.relay_run.proofs.TurnsLemmas.{again_same, later_none, turned_once}
use Rattle.relay_run.proofs.shell.Shell.serve.Goals as goal

pub loop-init : goal.loop-init
loop-init g c = (
  λ changes setting served.
      later_none g.D.Disk.honest g.D.Disk.words g.S.Stream.remaining g.S.Stream.contents changes setting (clients_of c.args.self.clients) c.args.self.relay served,
  λ matches. matches,
)

pub loop-preserved : goal.loop-preserved
loop-preserved g c = (
  λ changes setting served.
      let shell = c.in_ok-shell.shell in
      let ended = c.has_ended.new.self in
      again_same g.D.Disk.honest g.D.Disk.words g.S.Stream.remaining g.S.Stream.contents changes setting (clients_of shell.clients) (clients_of ended.clients) shell.relay ended.relay
      (ap (λ (it : Clients _). clients_of it) c.has_ended.ensures.rest.1) c.has_ended.ensures.rest.0
      (turned_once g.D.Disk.honest g.D.Disk.words g.S.Stream.remaining g.S.Stream.contents changes setting (clients_of c.loop.shell.clients) (clients_of shell.clients) c.loop.shell.relay shell.relay
      c.in_ok-shell.ensures.served (c.loop.invariant.0 changes setting served)),
  λ matches.
      hops_still c.in_ok-shell.shell.next_hops c.has_ended.new.self.next_hops c.in_ok-shell.shell.relay c.has_ended.new.self.relay c.has_ended.ensures.rest.2 c.has_ended.ensures.rest.0
      (c.in_ok-shell.ensures.matches (c.loop.invariant.1 matches)),
)

pub returns : goal.returns
returns g c = record { drained = tt; served = λ changes setting served. tt; matches = λ matches. tt }

pub returns-then-has_ended : goal.returns-then-has_ended
returns-then-has_ended g c = record {
  drained = c.has_ended.ensures.drained c.if-has_ended.true;
  served = λ changes setting served.
      let shell = c.in_ok-shell.shell in
      let ended = c.has_ended.new.self in
      again_same g.D.Disk.honest g.D.Disk.words g.S.Stream.remaining g.S.Stream.contents changes setting (clients_of shell.clients) (clients_of ended.clients) shell.relay ended.relay
      (ap (λ (it : Clients _). clients_of it) c.has_ended.ensures.rest.1) c.has_ended.ensures.rest.0
      (turned_once g.D.Disk.honest g.D.Disk.words g.S.Stream.remaining g.S.Stream.contents changes setting (clients_of c.loop.shell.clients) (clients_of shell.clients) c.loop.shell.relay shell.relay
      c.in_ok-shell.ensures.served (c.loop.invariant.0 changes setting served));
  matches = λ matches.
      hops_still c.in_ok-shell.shell.next_hops c.has_ended.new.self.next_hops c.in_ok-shell.shell.relay c.has_ended.new.self.relay c.has_ended.ensures.rest.2 c.has_ended.ensures.rest.0
      (c.in_ok-shell.ensures.matches (c.loop.invariant.1 matches));
}

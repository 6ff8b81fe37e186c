-- Another client of a balancer was received, or a connection was closed.
use Rattle.std.proofs.Common.{refl, ap, ◌∙◌}
use Rattle.relay_loop.specs.Relay.{RelayState}
use Rattle.relay_connections.specs.Readiness.{clients_of}
use Rattle.relay_connections.specs.Welcome.{AreAllowed, KeepsRules}
use Rattle.relay_run.proofs.AcceptorLemmas.{kept_on, kept_still}
use Rattle.relay_run.proofs.ServedLemmas.{more_none, serves_on, serves_still}
use Rattle.relay_run.proofs.acceptor.Acceptor.admit_arrived.Goals as goal
use Rattle.relay_run.proofs.acceptor.Acceptor.admit_arrived.Goals.{in-Some-Client+in_ok-welcome-in-Some-Client, in-Some-Refused}

pub loop-init : goal.loop-init
loop-init g c = (
  λ allowed. allowed,
  refl,
  λ changes setting served. more_none g.D.Disk.honest g.D.Disk.words g.S.Stream.remaining g.S.Stream.contents changes setting (clients_of c.args.clients.now) (clients_of c.args.clients.now) c.args.relay.now c.args.relay.now refl refl served,
  refl,
)

pub loop-preserved : goal.loop-preserved
loop-preserved g c =
    let before : (AreAllowed c.args.clients.now c.args.relay.now → AreAllowed c.loop.clients c.loop.relay) × KeepsRules c.args.clients.now c.loop.clients = (c.loop.invariant.0, c.loop.invariant.1) in
    elim c.match-next-2.branch [
      | in-Some-Client+in_ok-welcome-in-Some-Client w ↦
          let kept = kept_still c.args.clients.now c.args.relay.now w.welcome.new.clients c.match-next-2.clients w.welcome.new.relay c.match-next-2.relay w.clients-is w.relay-is
          (kept_on c.args.clients.now c.args.relay.now c.loop.clients w.welcome.new.clients c.loop.relay w.welcome.new.relay before w.welcome.ensures.allowed w.welcome.ensures.rules) in (
            kept.0,
            kept.1,
            serves_still g.D.Disk.honest g.D.Disk.words g.S.Stream.remaining g.S.Stream.contents c.args.clients.now w.welcome.new.clients c.match-next-2.clients c.args.relay.now w.welcome.new.relay c.match-next-2.relay w.clients-is w.relay-is
                (serves_on g.D.Disk.honest g.D.Disk.words g.S.Stream.remaining g.S.Stream.contents c.args.clients.now c.loop.clients w.welcome.new.clients c.args.relay.now c.loop.relay w.welcome.new.relay c.loop.invariant.2 w.in_ok-welcome-in-Some-Client.ensures.served),
            ap (λ (it : RelayState _). it.node.config) w.relay-is ∙ w.welcome.ensures.config ∙ c.loop.invariant.3,
          )
      | in-Some-Refused w ↦
          let kept = kept_still c.args.clients.now c.args.relay.now c.loop.clients c.match-next-2.clients c.loop.relay c.match-next-2.relay w.clients-is w.relay-is before in
          (kept.0, kept.1, serves_still g.D.Disk.honest g.D.Disk.words g.S.Stream.remaining g.S.Stream.contents c.args.clients.now c.loop.clients c.match-next-2.clients c.args.relay.now c.loop.relay c.match-next-2.relay w.clients-is w.relay-is c.loop.invariant.2, ap (λ (it : RelayState _). it.node.config) w.relay-is ∙ c.loop.invariant.3)
    ]

pub returns-in-None-clause-served : goal.returns-in-None-clause-served
returns-in-None-clause-served g c = c.loop.invariant.2

pub returns-clause-served : goal.returns-clause-served
returns-clause-served g c = c.loop.invariant.2

-- Another client was received, or none.
use Rattle.std.proofs.Common.{refl, ap, ◌∙◌}
use Rattle.relay_loop.specs.Relay.{RelayState}
use Rattle.relay_connections.specs.Readiness.{clients_of}
use Rattle.relay_connections.specs.Welcome.{AreAllowed, KeepsRules}
use Rattle.relay_run.proofs.AcceptorLemmas.{kept_on, kept_still}
use Rattle.relay_run.proofs.ServedLemmas.{more_none, serves_last, serves_on, serves_still}
use Rattle.relay_run.proofs.acceptor.Acceptor.admit.Goals as goal
use Rattle.relay_run.proofs.acceptor.Acceptor.admit.Goals.{in-Client+in_ok-receive-in-Client, in-Missed, in-Nobody, in-Want}

pub loop-init : goal.loop-init
loop-init g c = (
  λ allowed. allowed,
  refl,
  λ changes setting served. more_none g.D.Disk.honest g.D.Disk.words g.S.Stream.remaining g.S.Stream.contents changes setting (clients_of c.args.clients.now) (clients_of c.args.clients.now) c.args.relay.now c.args.relay.now refl refl served,
  refl,
)

pub loop-preserved : goal.loop-preserved
loop-preserved g c =
    let before : (AreAllowed c.args.clients.now c.args.relay.now → AreAllowed c.loop.clients c.loop.relay) × KeepsRules c.args.clients.now c.loop.clients = (c.loop.invariant.0, c.loop.invariant.1) in
    elim c.match-accept.branch [
      | in-Client+in_ok-receive-in-Client w ↦
          let kept = kept_still c.args.clients.now c.args.relay.now w.receive.new.clients c.match-accept.clients w.receive.new.relay c.match-accept.relay w.clients-is w.relay-is
          (kept_on c.args.clients.now c.args.relay.now c.loop.clients w.receive.new.clients c.loop.relay w.receive.new.relay before w.receive.ensures.allowed w.receive.ensures.rules) in (
            kept.0,
            kept.1,
            serves_still g.D.Disk.honest g.D.Disk.words g.S.Stream.remaining g.S.Stream.contents c.args.clients.now w.receive.new.clients c.match-accept.clients c.args.relay.now w.receive.new.relay c.match-accept.relay w.clients-is w.relay-is
                (serves_on g.D.Disk.honest g.D.Disk.words g.S.Stream.remaining g.S.Stream.contents c.args.clients.now c.loop.clients w.receive.new.clients c.args.relay.now c.loop.relay w.receive.new.relay c.loop.invariant.2 w.in_ok-receive-in-Client.ensures.served),
            ap (λ (it : RelayState _). it.node.config) w.relay-is ∙ w.receive.ensures.config ∙ c.loop.invariant.3,
          )
      | in-Missed w ↦
          let kept = kept_still c.args.clients.now c.args.relay.now c.loop.clients c.match-accept.clients c.loop.relay c.match-accept.relay w.clients-is w.relay-is before in
          (kept.0, kept.1, serves_still g.D.Disk.honest g.D.Disk.words g.S.Stream.remaining g.S.Stream.contents c.args.clients.now c.loop.clients c.match-accept.clients c.args.relay.now c.loop.relay c.match-accept.relay w.clients-is w.relay-is c.loop.invariant.2, ap (λ (it : RelayState _). it.node.config) w.relay-is ∙ c.loop.invariant.3)
      | in-Nobody w ↦
          let kept = kept_still c.args.clients.now c.args.relay.now c.loop.clients c.match-accept.clients c.loop.relay c.match-accept.relay w.clients-is w.relay-is before in
          (kept.0, kept.1, serves_still g.D.Disk.honest g.D.Disk.words g.S.Stream.remaining g.S.Stream.contents c.args.clients.now c.loop.clients c.match-accept.clients c.args.relay.now c.loop.relay c.match-accept.relay w.clients-is w.relay-is c.loop.invariant.2, ap (λ (it : RelayState _). it.node.config) w.relay-is ∙ c.loop.invariant.3)
      | in-Want w ↦
          let kept = kept_still c.args.clients.now c.args.relay.now c.loop.clients c.match-accept.clients c.loop.relay c.match-accept.relay w.clients-is w.relay-is before in
          (kept.0, kept.1, serves_still g.D.Disk.honest g.D.Disk.words g.S.Stream.remaining g.S.Stream.contents c.args.clients.now c.loop.clients c.match-accept.clients c.args.relay.now c.loop.relay c.match-accept.relay w.clients-is w.relay-is c.loop.invariant.2, ap (λ (it : RelayState _). it.node.config) w.relay-is ∙ c.loop.invariant.3)
    ]

pub returns-clause-served : goal.returns-clause-served
returns-clause-served g c = λ changes setting served.
    serves_last g.D.Disk.honest g.D.Disk.words g.S.Stream.remaining g.S.Stream.contents c.admit_arrived.result changes setting c.args.clients.now c.loop.clients c.admit_arrived.new.clients c.loop.relay c.admit_arrived.new.relay
    (c.loop.invariant.2 changes setting served) (λ setting served. c.admit_arrived.ensures.served changes setting served)

-- What was reported was noted, a turn was taken, and the relay goes on, or was opened again.
use Rattle.relay_connections.specs.Readiness.{clients_of}
use Rattle.relay_run.specs.declared.shell.Shell.{Shell}
use Rattle.relay_run.proofs.HopsLemmas.{resumed_hops}
use Rattle.relay_run.proofs.TurnsLemmas.{resumed_if}
use Rattle.relay_run.proofs.shell.Shell.next_turn.Goals as goal

pub returns : goal.returns
returns g c =
    let turned = c.take_turn-end.new.self in
    record {
      served = resumed_if g.D.Disk.honest g.D.Disk.words g.S.Stream.remaining g.S.Stream.contents c.take_turn-end.result c.resumed.result (λ (it : Shell _ _ _). clients_of it.clients) (λ (it : Shell _ _ _). it.relay)
          (clients_of c.args.self.clients) (clients_of turned.clients) c.args.self.relay turned.relay
          (λ changes setting served. c.take_turn-end.ensures.served changes setting (c.hear_reports.ensures.served changes setting served)) c.resumed.ensures.served c.resumed.ensures.none;
      matches = λ matches.
          resumed_hops c.take_turn-end.result c.resumed.result (λ (it : Shell _ _ _). it.next_hops) (λ (it : Shell _ _ _). it.relay) turned.next_hops turned.relay
          (c.take_turn-end.ensures.matches (c.hear_reports.ensures.matches matches)) c.resumed.ensures.matches;
    }

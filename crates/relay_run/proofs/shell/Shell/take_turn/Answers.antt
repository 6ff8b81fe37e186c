-- A turn, what a postmaster asked for, and a trim.
use Rattle.std.proofs.Common.{ap}
use Rattle.relay_connections.specs.Readiness.{clients_of}
use Rattle.relay_connections.specs.declared.clients.Clients.{Clients}
use Rattle.relay_run.proofs.HopsLemmas.{hops_still, trimmed_hops}
use Rattle.relay_run.proofs.TurnsLemmas.{whole_turn}
use Rattle.relay_run.proofs.shell.Shell.take_turn.Goals as goal

pub returns : goal.returns
returns g c = record {
  served = λ changes setting served.
      let advanced = c.advance.new.self in
      let obeyed = c.obey_caller.new.self in
      let known = c.note_known.new.self in
      let last = c.trim.new.self in
      whole_turn g.D.Disk.honest g.D.Disk.words g.S.Stream.remaining g.S.Stream.contents c.trim.result changes setting (clients_of c.args.self.now.clients) (clients_of advanced.clients) (clients_of obeyed.clients)
      (clients_of known.clients) (clients_of last.clients) c.args.self.now.relay advanced.relay obeyed.relay known.relay last.relay served
      (λ changes setting served. c.in_ok-advance.ensures.served changes setting served) (λ changes setting served. c.in_ok-obey_caller.ensures.served changes setting served)
      (ap (λ (it : Clients _). clients_of it) c.note_known.ensures.rest.1) c.note_known.ensures.rest.0 (λ changes setting served. c.trim.ensures.served changes setting served);
  matches = λ matches.
      let obeyed = c.obey_caller.new.self in
      let known = c.note_known.new.self in
      let last = c.trim.new.self in
      trimmed_hops c.trim.result g.D.Disk.honest g.D.Disk.words known.next_hops last.next_hops known.relay last.relay c.trim.ensures.rest.1 c.trim.ensures.trimmed
      (hops_still obeyed.next_hops known.next_hops obeyed.relay known.relay c.note_known.ensures.rest.2 c.note_known.ensures.rest.0
      (c.in_ok-obey_caller.ensures.matches (c.in_ok-advance.ensures.matches matches)));
}

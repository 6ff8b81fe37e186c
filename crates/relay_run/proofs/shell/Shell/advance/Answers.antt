-- A turn, and then a compaction, or none.
use Rattle.std.proofs.Common.{ap}
use Rattle.relay_connections.specs.Readiness.{clients_of}
use Rattle.relay_connections.specs.declared.clients.Clients.{Clients}
use Rattle.relay_run.proofs.HopsLemmas.{hops_same, hops_still, tidied_config}
use Rattle.relay_run.proofs.ServedLemmas.{on_kept, served_same}
use Rattle.relay_run.proofs.shell.Shell.advance.Goals as goal

pub returns : goal.returns
returns g c = record {
  served = λ changes setting served.
      let honest = g.D.Disk.honest in
      let words = g.D.Disk.words in
      let remaining = g.S.Stream.remaining in
      let contents = g.S.Stream.contents in
      let turned = c.turn-end.new.self in
      let known = c.note_known.new.self in
      let tidied = c.tidy-end.new.self in
      let last = c.note_known-2.new.self in
      on_kept honest words remaining contents changes setting (clients_of c.args.self.now.clients) (clients_of turned.clients) (clients_of last.clients) turned.relay last.relay
      (c.in_ok-end.ensures.served changes setting served)
      (λ changes setting served.
      served_same honest words remaining contents changes setting (clients_of tidied.clients) (clients_of last.clients) tidied.relay last.relay
      (ap (λ (it : Clients _). clients_of it) c.note_known-2.ensures.rest.1) c.note_known-2.ensures.rest.0
      (c.in_ok-end-2.ensures.served changes setting
      (served_same honest words remaining contents changes setting (clients_of turned.clients) (clients_of known.clients) turned.relay known.relay
      (ap (λ (it : Clients _). clients_of it) c.note_known.ensures.rest.1) c.note_known.ensures.rest.0 served)));
  matches = λ matches.
      let turned = c.turn-end.new.self in
      let known = c.note_known.new.self in
      let tidied = c.tidy-end.new.self in
      let last = c.note_known-2.new.self in
      hops_still tidied.next_hops last.next_hops tidied.relay last.relay c.note_known-2.ensures.rest.2 c.note_known-2.ensures.rest.0
      (hops_same known.next_hops tidied.next_hops known.relay tidied.relay c.tidy-end.ensures.rest.1
      (tidied_config g.D.Disk.honest g.D.Disk.words known.tidying.was_full known.relay tidied.relay c.in_ok-end-2.ensures.tidies)
      (hops_still turned.next_hops known.next_hops turned.relay known.relay c.note_known.ensures.rest.2 c.note_known.ensures.rest.0 (c.in_ok-end.ensures.matches matches)));
}

-- What was asked for has left clients alone, and so has what is noted of the spool.
use Rattle.std.proofs.Common.{ap, sym, subst, ◌∙◌}
use Rattle.relay_connections.specs.Readiness.{clients_of}
use Rattle.relay_connections.specs.Served.{LeavesClients}
use Rattle.relay_connections.specs.declared.clients.Clients.{Clients}
use Rattle.relay_loop.specs.Relay.{RelayState}
use Rattle.relay_run.proofs.HopsLemmas.{hops_on, hops_still}
use Rattle.relay_run.proofs.LeavingLemmas.{obeyed_leaves, obeyed_table}
use Rattle.relay_run.proofs.ServedLemmas.{on_left}
use Rattle.relay_run.proofs.shell.Shell.ask.Goals as goal

pub returns-clause-served : goal.returns-clause-served
returns-clause-served g c = λ changes setting served.
    let obeyed = c.obey-end.new.self in
    let known = c.note_known.new.self in
    on_left g.D.Disk.honest g.D.Disk.words g.S.Stream.remaining g.S.Stream.contents changes setting (clients_of c.args.self.now.clients) (clients_of known.clients) c.args.self.now.relay known.relay
    (ap (λ (it : Clients _). clients_of it) c.note_known.ensures.rest.1
    ∙ obeyed_table g.O.Documents.has_read c.args.files.now c.args.self.now.relay.node.config c.args.now.now.tick _ _ _ obeyed.steering c.args.self.now.clients obeyed.clients _ c.obey-end.ensures.drains c.in_ok-answer.ensures.reloads)
    (subst (λ (it : RelayState _). LeavesClients g.D.Disk.honest g.D.Disk.words c.args.self.now.relay it) (sym c.note_known.ensures.rest.0)
    (obeyed_leaves g.D.Disk.honest g.D.Disk.words c.args.now.now.moment _ c.args.self.now.relay obeyed.relay _ c.in_ok-answer.ensures.obeys)) served

pub returns-clause-matches : goal.returns-clause-matches
returns-clause-matches g c = λ matches.
    let obeyed = c.obey-end.new.self in
    let known = c.note_known.new.self in
    hops_still obeyed.next_hops known.next_hops obeyed.relay known.relay c.note_known.ensures.rest.2 c.note_known.ensures.rest.0
    (hops_on c.args.self.now.next_hops obeyed.next_hops c.args.self.now.relay obeyed.relay (obeyed_leaves g.D.Disk.honest g.D.Disk.words c.args.now.now.moment _ c.args.self.now.relay obeyed.relay _ c.in_ok-answer.ensures.obeys).config c.obey-end.ensures.matches matches)

-- What a caller asked for has left clients alone.
use Rattle.relay_connections.specs.Readiness.{clients_of}
use Rattle.relay_run.proofs.HopsLemmas.{hops_on}
use Rattle.relay_run.proofs.LeavingLemmas.{obeyed_leaves, obeyed_table}
use Rattle.relay_run.proofs.ServedLemmas.{on_left, on_same}
use Rattle.relay_run.proofs.shell.Shell.steer.Goals as goal

pub returns-in_default-clause-served : goal.returns-in_default-clause-served
returns-in_default-clause-served g c = λ changes setting served.
    on_same g.D.Disk.honest g.D.Disk.words g.S.Stream.remaining g.S.Stream.contents changes setting (clients_of c.args.self.now.clients) c.args.self.now.relay served

pub returns-in-Some-2-clause-served : goal.returns-in-Some-2-clause-served
returns-in-Some-2-clause-served g c = λ changes setting served.
    let obeyed = c.obey.new.self in
    on_left g.D.Disk.honest g.D.Disk.words g.S.Stream.remaining g.S.Stream.contents changes setting (clients_of c.args.self.now.clients) (clients_of obeyed.clients) c.args.self.now.relay obeyed.relay
    (obeyed_table g.O.Documents.has_read c.args.files.now c.args.self.now.relay.node.config c.args.now.now.tick _ _ _ obeyed.steering c.args.self.now.clients obeyed.clients _ c.obey.ensures.drains c.in_ok-answer.ensures.reloads)
    (obeyed_leaves g.D.Disk.honest g.D.Disk.words c.args.now.now.moment _ c.args.self.now.relay obeyed.relay _ c.in_ok-answer.ensures.obeys) served

pub returns-in_default-2-clause-served : goal.returns-in_default-2-clause-served
returns-in_default-2-clause-served g c = λ changes setting served.
    let obeyed = c.obey.new.self in
    on_left g.D.Disk.honest g.D.Disk.words g.S.Stream.remaining g.S.Stream.contents changes setting (clients_of c.args.self.now.clients) (clients_of obeyed.clients) c.args.self.now.relay obeyed.relay
    (obeyed_table g.O.Documents.has_read c.args.files.now c.args.self.now.relay.node.config c.args.now.now.tick _ _ _ obeyed.steering c.args.self.now.clients obeyed.clients _ c.obey.ensures.drains c.in_ok-answer.ensures.reloads)
    (obeyed_leaves g.D.Disk.honest g.D.Disk.words c.args.now.now.moment _ c.args.self.now.relay obeyed.relay _ c.in_ok-answer.ensures.obeys) served

pub returns-in-Some-2-clause-matches : goal.returns-in-Some-2-clause-matches
returns-in-Some-2-clause-matches g c = λ matches.
    hops_on c.args.self.now.next_hops c.obey.new.self.next_hops c.args.self.now.relay c.obey.new.self.relay (obeyed_leaves g.D.Disk.honest g.D.Disk.words c.args.now.now.moment _ c.args.self.now.relay c.obey.new.self.relay _ c.in_ok-answer.ensures.obeys).config c.obey.ensures.matches matches

pub returns-in_default-2-clause-matches : goal.returns-in_default-2-clause-matches
returns-in_default-2-clause-matches g c = λ matches.
    hops_on c.args.self.now.next_hops c.obey.new.self.next_hops c.args.self.now.relay c.obey.new.self.relay (obeyed_leaves g.D.Disk.honest g.D.Disk.words c.args.now.now.moment _ c.args.self.now.relay c.obey.new.self.relay _ c.in_ok-answer.ensures.obeys).config c.obey.ensures.matches matches

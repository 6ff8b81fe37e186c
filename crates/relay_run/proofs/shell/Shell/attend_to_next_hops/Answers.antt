-- Clients are left alone.
use Rattle.std.proofs.Common.{ap}
use Rattle.relay_connections.specs.Readiness.{clients_of}
use Rattle.relay_connections.specs.declared.clients.Clients.{Clients}
use Rattle.relay_connections.proofs.Theorems.{left_are_served}
use Rattle.relay_run.proofs.ServedLemmas.{after_same}
use Rattle.relay_run.proofs.HopsLemmas.{hops_on, hops_still}
use Rattle.relay_run.proofs.shell.Shell.attend_to_next_hops.Goals as goal

pub returns-clause-served : goal.returns-clause-served
returns-clause-served g c = λ changes setting served.
    let honest = g.D.Disk.honest in
    let words = g.D.Disk.words in
    let remaining = g.S.Stream.remaining in
    let contents = g.S.Stream.contents in
    let clients = clients_of c.args.self.now.clients in
    after_same honest words remaining contents changes setting clients (clients_of c.note_ends.new.self.clients) c.attend.new.relay c.note_ends.new.self.relay
    (ap (λ (it : Clients _). clients_of it) c.note_ends.ensures.same.1) c.note_ends.ensures.same.0
    (left_are_served honest words remaining contents changes setting clients c.args.self.now.relay c.attend.new.relay c.in_ok-closed.ensures.leaves served)

-- The tables match as before.
pub returns-clause-matches : goal.returns-clause-matches
returns-clause-matches g c = λ matches.
    hops_still c.attend.new.self c.note_ends.new.self.next_hops c.attend.new.relay c.note_ends.new.self.relay c.note_ends.ensures.same.2 c.note_ends.ensures.same.0
    (hops_on c.args.self.now.next_hops c.attend.new.self c.args.self.now.relay c.attend.new.relay c.in_ok-closed.ensures.leaves.config c.in_ok-closed.ensures.matches matches)

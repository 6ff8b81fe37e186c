-- The client is served from here on, or nothing has changed.
use Rattle.relay_run.proofs.ServedLemmas.{welcomed}
use Rattle.relay_run.proofs.acceptor.Acceptor.welcome.Goals as goal

pub returns-in-None-clause-served : goal.returns-in-None-clause-served
returns-in-None-clause-served g c = λ changes setting served.
    let found = c.in_ok-welcome.ensures in
    welcomed g.D.Disk.honest g.D.Disk.words g.S.Stream.remaining g.S.Stream.contents changes setting c.args.clients.now c.welcome.new.self c.args.relay.now c.welcome.new.relay c.args.peer c.args.stream _ _
    found.judged found.refused (λ open_for. (c.welcome.ensures.opens open_for).1) (λ open_for. found.served open_for changes setting served) served

pub returns-in-Some-NoRoom-clause-served : goal.returns-in-Some-NoRoom-clause-served
returns-in-Some-NoRoom-clause-served g c = λ changes setting served.
    let found = c.in_ok-welcome.ensures in
    welcomed g.D.Disk.honest g.D.Disk.words g.S.Stream.remaining g.S.Stream.contents changes setting c.args.clients.now c.welcome.new.self c.args.relay.now c.welcome.new.relay c.args.peer c.args.stream _ _
    found.judged found.refused (λ open_for. (c.welcome.ensures.opens open_for).1) (λ open_for. found.served open_for changes setting served) served

pub returns-in-Some-NoService-clause-served : goal.returns-in-Some-NoService-clause-served
returns-in-Some-NoService-clause-served g c = λ changes setting served.
    let found = c.in_ok-welcome.ensures in
    welcomed g.D.Disk.honest g.D.Disk.words g.S.Stream.remaining g.S.Stream.contents changes setting c.args.clients.now c.welcome.new.self c.args.relay.now c.welcome.new.relay c.args.peer c.args.stream _ _
    found.judged found.refused (λ open_for. (c.welcome.ensures.opens open_for).1) (λ open_for. found.served open_for changes setting served) served

pub returns-in-Some-Stopping-clause-served : goal.returns-in-Some-Stopping-clause-served
returns-in-Some-Stopping-clause-served g c = λ changes setting served.
    let found = c.in_ok-welcome.ensures in
    welcomed g.D.Disk.honest g.D.Disk.words g.S.Stream.remaining g.S.Stream.contents changes setting c.args.clients.now c.welcome.new.self c.args.relay.now c.welcome.new.relay c.args.peer c.args.stream _ _
    found.judged found.refused (λ open_for. (c.welcome.ensures.opens open_for).1) (λ open_for. found.served open_for changes setting served) served

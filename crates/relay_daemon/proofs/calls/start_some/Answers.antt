-- An attempt for fewer places than it might have is for all that are due.
use Rattle.relay_daemon.proofs.RefusedLemmas.{starts_all}
use Rattle.relay_daemon.proofs.calls.start_some.Goals as goal

pub returns-clause-starts : goal.returns-clause-starts
returns-clause-starts g c = λ few.
    starts_all g.D.Disk.honest g.D.Disk.words c.args.message c.args.hop.now c.args.most c.args.now c.args.relay.now
    c.start_some.new.self c.in_ok-started.started c.in_ok-started.ensures.starts c.in_ok-started.ensures.connection
    c.in_ok-started.ensures.only c.start_some.ensures.records few

-- The connection of a balancer has no client yet.
use Rattle.std.proofs.Common.{refl}
use Rattle.relay_connections.specs.Readiness.{clients_of}
use Rattle.relay_run.proofs.ServedLemmas.{more_none}
use Rattle.relay_run.proofs.acceptor.Acceptor.receive.Goals as goal

pub returns-in-Err-clause-served : goal.returns-in-Err-clause-served
returns-in-Err-clause-served g c = λ changes setting served.
    more_none g.D.Disk.honest g.D.Disk.words g.S.Stream.remaining g.S.Stream.contents changes setting (clients_of c.args.clients.now) (clients_of c.args.clients.now) c.args.relay.now c.args.relay.now refl refl served

pub returns-in_default-clause-served : goal.returns-in_default-clause-served
returns-in_default-clause-served g c = λ changes setting served.
    more_none g.D.Disk.honest g.D.Disk.words g.S.Stream.remaining g.S.Stream.contents changes setting (clients_of c.args.clients.now) (clients_of c.args.clients.now) c.args.relay.now c.args.relay.now refl refl served

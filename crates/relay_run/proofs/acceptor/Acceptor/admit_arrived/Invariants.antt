-- so far all clients may connect, and they are served as before, and the configuration is the same
use Rattle.std.proofs.Common.{◌≡◌}
use Rattle.relay_connections.specs.Welcome.{AreAllowed, KeepsRules}
use Rattle.relay_run.proofs.ServedLemmas.{ServesMore}
use Rattle.relay_run.proofs.acceptor.Acceptor.admit_arrived.Given as goal

abbrev pub invariant-loop : goal.invariant-loop
invariant-loop g l = (AreAllowed l.fn.clients l.fn.relay → AreAllowed l.clients l.relay)
    × KeepsRules l.fn.clients l.clients
    × ServesMore g.D.Disk.honest g.D.Disk.words g.S.Stream.remaining g.S.Stream.contents l.fn.clients l.clients l.fn.relay l.relay
    × (l.relay.node.config ≡ l.fn.relay.node.config)

-- clients that were served at first are served still, or since the relay was opened again; connections to next hops match
-- the configuration
use Rattle.std.proofs.Common.{List}
use Rattle.relay_book.specs.declared.change.Change.{Change}
use Rattle.relay_connections.specs.Carried.{Setting}
use Rattle.relay_connections.specs.Readiness.{clients_of}
use Rattle.relay_connections.specs.Served.{AreServed}
use Rattle.relay_run.specs.Hops.{HopsMatch}
use Rattle.relay_run.specs.Serving.{AreServedLaterOrAgain}
use Rattle.relay_run.proofs.shell.Shell.turns.Given as goal

abbrev pub invariant-loop : goal.invariant-loop
invariant-loop g l =
    ((changes : List Change) (setting : Setting) → AreServed g.D.Disk.honest g.D.Disk.words g.S.Stream.remaining g.S.Stream.contents changes setting (clients_of l.fn.self.clients) l.fn.self.relay
    → AreServedLaterOrAgain g.D.Disk.honest g.D.Disk.words g.S.Stream.remaining g.S.Stream.contents changes setting (clients_of l.shell.clients) l.shell.relay)
    × (HopsMatch l.fn.self.next_hops l.fn.self.relay → HopsMatch l.shell.next_hops l.shell.relay)

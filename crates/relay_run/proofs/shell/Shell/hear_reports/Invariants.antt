-- clients are served as they were, and connections to next hops match the configuration
use Rattle.std.proofs.Common.{List}
use Rattle.relay_book.specs.declared.change.Change.{Change}
use Rattle.relay_connections.specs.Carried.{Setting}
use Rattle.relay_connections.specs.Readiness.{clients_of}
use Rattle.relay_connections.specs.Served.{AreServed}
use Rattle.relay_run.specs.Hops.{HopsMatch}
use Rattle.relay_run.proofs.shell.Shell.hear_reports.Given as goal

abbrev pub invariant-loop : goal.invariant-loop
invariant-loop g l =
    ((changes : List Change) (setting : Setting) → AreServed g.D.Disk.honest g.D.Disk.words g.S.Stream.remaining g.S.Stream.contents changes setting (clients_of l.fn.self.clients) l.fn.self.relay
    → AreServed g.D.Disk.honest g.D.Disk.words g.S.Stream.remaining g.S.Stream.contents changes setting (clients_of l.self.clients) l.self.relay)
    × (HopsMatch l.fn.self.next_hops l.fn.self.relay → HopsMatch l.self.next_hops l.self.relay)

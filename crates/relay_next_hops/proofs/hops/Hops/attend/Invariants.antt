-- where counts and aims matched before, they do; clients are left alone
use Rattle.std.proofs.Common.{List}
use Rattle.relay_routes.specs.Routes.{Route}
use Rattle.relay_connections.specs.Served.{LeavesClients}
use Rattle.relay_next_hops.specs.Counts.{CountsMatch}
use Rattle.relay_next_hops.specs.Deliveries.{AreAimed}
use Rattle.relay_next_hops.proofs.hops.Hops.attend.Given as goal

abbrev pub invariant-loop-step : goal.invariant-loop-step
invariant-loop-step g l =
    (CountsMatch l.initial.self.hops l.initial.lanes.paces → CountsMatch l.self.hops l.lanes.paces)
    × ((routes : List Route) → AreAimed routes l.initial.self.hops → AreAimed routes l.self.hops)
    × LeavesClients g.D.Disk.honest g.D.Disk.words l.initial.relay l.relay

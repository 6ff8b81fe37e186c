-- What is answered from here on completes what was answered so far; and where counts and aims matched before, they do. Clients
-- are left alone.
use Rattle.std.proofs.Common.{◌+◌, ◌-◌, List, Option}
use Rattle.relay_routes.specs.Routes.{Route}
use Rattle.relay_connections.specs.Hearing.{turned}
use Rattle.relay_connections.specs.Served.{LeavesClients}
use Rattle.relay_next_hops.specs.Counts.{CountsMatch}
use Rattle.relay_next_hops.specs.Deliveries.{AreAimed}
use Rattle.relay_next_hops.specs.Hearing.{AnswersEach}
use Rattle.relay_next_hops.specs.declared.hop.Hop.{Hop}
use Rattle.relay_next_hops.proofs.hops.Hops.answer.Given as goal

abbrev pub invariant-loop-step : goal.invariant-loop-step
invariant-loop-step g l =
    ((new : List (Option (Hop _))) → AnswersEach l.turn.now.now.tick (turned l.count (l.first + l.step) (l.count - l.step)) l.answers.rest.items l.self.hops new
    → AnswersEach l.turn.now.now.tick (turned l.count (l.initial.first + 0) (l.count - 0)) l.initial.answers.rest.items l.initial.self.hops new)
    × (CountsMatch l.initial.self.hops l.initial.lanes.paces → CountsMatch l.self.hops l.lanes.paces)
    × ((routes : List Route) → AreAimed routes l.initial.self.hops → AreAimed routes l.self.hops)
    × LeavesClients g.D.Disk.honest g.D.Disk.words l.initial.relay l.relay

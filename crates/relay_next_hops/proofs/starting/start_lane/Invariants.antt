-- How far it has come with the lane: where counts and aims matched before, they do, and so many of its tasks have left
-- it as were tried, but for those that were put back for want of a descriptor.
use Rattle.std.proofs.Common.{◌≡◌, ◌+◌, ◌≤◌, length}
use Rattle.relay_connections.specs.Served.{LeavesClients}
use Rattle.relay_next_hops.specs.Counts.{CountsMatch, unanswered_of}
use Rattle.relay_next_hops.specs.Deliveries.{AreAimed}
use Rattle.relay_next_hops.specs.Lanes.{OnlyLane, tasks_at}
use Rattle.relay_next_hops.specs.Starting.{OpensUnheld}
use Rattle.relay_next_hops.specs.Tasks.{DropsNone, KeepsConnections}
use Rattle.relay_next_hops.proofs.starting.start_lane.Given as goal

abbrev pub invariant-loop : goal.invariant-loop
invariant-loop g l = record {
  leaves : LeavesClients g.D.Disk.honest g.D.Disk.words l.initial.relay l.relay;
  config : l.relay.node.config ≡ l.initial.relay.node.config;
  counts : CountsMatch l.initial.hops.hops l.initial.lanes.paces → CountsMatch l.hops.hops l.lanes.paces;
  aimed : AreAimed l.initial.relay.node.config.routes.routes l.initial.hops.hops
      → AreAimed l.initial.relay.node.config.routes.routes l.hops.hops;
  only : OnlyLane l.lane l.initial.lanes l.lanes;
  unheld : OpensUnheld l.initial.lanes.held l.initial.hops.hops l.hops.hops;
  drops : DropsNone g.D.Disk.honest g.D.Disk.words l.turn.now.now.moment l.hops.hops l.initial.lanes l.lanes l.initial.relay l.relay;
  stand : KeepsConnections l.initial.hops.hops l.hops.hops;
  more : unanswered_of l.initial.hops.hops l.initial.lanes.paces ≤ unanswered_of l.hops.hops l.lanes.paces;
  kept : g.N.Dial.spares l.dial ≤ g.N.Dial.spares l.initial.dial;
  tries : g.N.Dial.spares l.initial.dial ≤ g.N.Dial.spares l.dial + l.counter;
  tasks : length (tasks_at l.lanes l.lane) + l.counter + g.N.Dial.spares l.dial
      ≤ length (tasks_at l.initial.lanes l.lane) + g.N.Dial.spares l.initial.dial;
}

-- The lanes so far were gone over, and all of them are done where none has more; where counts and aims matched before,
-- they do.
use Rattle.std.proofs.Common.{◌≡◌, ◌+◌, ◌<◌, ◌≤◌, ℕ, false, length, min, true}
use Rattle.relay_connections.specs.Served.{LeavesClients}
use Rattle.relay_next_hops.specs.Counts.{CountsMatch}
use Rattle.relay_next_hops.specs.Deliveries.{AreAimed}
use Rattle.relay_next_hops.specs.Lanes.{IsNth, tasks_at}
use Rattle.relay_next_hops.specs.Starting.{IsDone, OpensUnheld}
use Rattle.relay_next_hops.specs.Tasks.{DropsNone, KeepsConnections}
use Rattle.relay_next_hops.specs.Turns.{IsGoneOver}
use Rattle.relay_next_hops.proofs.turning.start_tasks.Given as goal

abbrev pub invariant-loop-step : goal.invariant-loop-step
invariant-loop-step g l = record {
  leaves : LeavesClients g.D.Disk.honest g.D.Disk.words l.initial.relay l.relay;
  config : l.relay.node.config ≡ l.initial.relay.node.config;
  counts : CountsMatch l.initial.hops.hops l.initial.lanes.paces → CountsMatch l.hops.hops l.lanes.paces;
  aimed : AreAimed l.initial.relay.node.config.routes.routes l.initial.hops.hops
      → AreAimed l.initial.relay.node.config.routes.routes l.hops.hops;
  unheld : OpensUnheld l.initial.lanes.held l.initial.hops.hops l.hops.hops;
  held : l.lanes.held ≡ l.initial.lanes.held;
  pause : l.starts.paused_until ≡ l.initial.starts.paused_until;
  opened : l.lanes.is_open ≡ l.initial.lanes.is_open;
  stale : l.initial.lanes.is_stale ≡ true → l.lanes.is_stale ≡ true;
  unroutable : l.lanes.unroutable ≡ l.initial.lanes.unroutable;
  drops : DropsNone g.D.Disk.honest g.D.Disk.words l.turn.now.now.moment l.hops.hops l.initial.lanes l.lanes l.initial.relay l.relay;
  stand : KeepsConnections l.initial.hops.hops l.hops.hops;
  kept : g.N.Dial.spares l.dial ≤ g.N.Dial.spares l.initial.dial;
  fewer : (lane : ℕ) → length (tasks_at l.lanes lane) ≤ length (tasks_at l.initial.lanes lane);
  gone : (lane past : ℕ) → past + 1 < l.step → lane < l.count → IsNth (min l.first l.count) l.count past lane
      → IsGoneOver l.turn.now.now.tick (g.N.Dial.spares l.initial.dial) l.initial.lanes l.hops.hops l.lanes lane;
  done : l.has_more ≡ false → (lane past : ℕ) → past + 1 < l.step → lane < l.count
      → IsNth (min l.first l.count) l.count past lane → IsDone l.turn.now.now.tick l.hops.hops l.lanes lane;
}

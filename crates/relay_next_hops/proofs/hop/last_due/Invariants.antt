-- the last moment is that of those that were passed over, and of the others
use Rattle.std.proofs.Common.{◌≡◌, ◌≤◌, drop}
use Rattle.std.specs.Prelude.{max}
use Rattle.relay_next_hops.specs.Deliveries.{last_due}
use Rattle.relay_next_hops.proofs.hop.last_due.Given as goal

abbrev pub invariant-loop-place : goal.invariant-loop-place
invariant-loop-place l = (max l.last (last_due (drop l.place-index l.places) l.fn.now) ≡ last_due l.places l.fn.now) × (l.fn.now ≤ l.last)

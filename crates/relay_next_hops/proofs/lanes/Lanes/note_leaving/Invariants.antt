-- as many attempts of each lane run as before, and the leaving connections of the lanes so far were counted again
use Rattle.std.proofs.Common.{◌≡◌, ◌<◌, ◌≤◌, ℕ, true, length, option_map}
use Rattle.std.specs.Prelude.{slice_get}
use Rattle.relay_connections.specs.Leaving.{goes_to, leavers_of}
use Rattle.relay_connections.specs.Table.{count_of_such}
use Rattle.relay_lanes.specs.Paces.{leaving_at}
use Rattle.relay_next_hops.specs.Counts.{recounted}
use Rattle.relay_next_hops.specs.Lanes.{KeepsCounts}
use Rattle.relay_next_hops.proofs.RecountLemmas.{Counted}
use Rattle.relay_next_hops.proofs.lanes.Lanes.note_leaving.Given as goal

abbrev pub invariant-loop-number : goal.invariant-loop-number
invariant-loop-number g l = record {
  counts : KeepsCounts l.initial.self l.self;
  counted : Counted (λ lane. count_of_such (goes_to lane) (leavers_of l.leaving)) l.initial.self.paces l.self.paces l.number;
  opened : (lane : ℕ) → lane < l.number → 0 < leaving_at l.initial.self.paces lane → l.self.is_open ≡ true;
  within : l.number ≤ length l.initial.self.lanes.items;
  tasks : l.self.lanes ≡ l.initial.self.lanes;
}

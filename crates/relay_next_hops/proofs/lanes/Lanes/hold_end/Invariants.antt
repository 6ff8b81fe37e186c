-- it is no later than the end of any hold that was passed over
use Rattle.std.proofs.Common.{◌≡◌, ◌<◌, ◌≤◌, ℕ, Some}
use Rattle.std.specs.Prelude.{slice_get}
use Rattle.relay_limits.specs.Pace.{hold_end}
use Rattle.relay_limits.specs.declared.pace.Pace.{Pace}
use Rattle.relay_next_hops.proofs.lanes.Lanes.hold_end.Given as goal

abbrev pub invariant-loop-pace : goal.invariant-loop-pace
invariant-loop-pace l =
    (lane : ℕ) (pace : Pace) (until : ℕ) → lane < l.pace-index → slice_get l.self.paces lane ≡ Some pace
    → hold_end l.now.tick pace.hold ≡ Some until → l.end ≤ until

use Rattle.std.proofs.Common.{◌≡◌, true, List, ℕ, length, reverse}
use Rattle.relay_disk.specs.MayLeave.{are_within, synced_after}
use Rattle.relay_disk.proofs.pick.settled.Given as goal

abbrev pub invariant-loop-last : goal.invariant-loop-last
invariant-loop-last l = record {
  same : (start : List ℕ) → synced_after start (reverse l.rest) ≡ synced_after start (reverse l.calls);
  within : (start : List ℕ) → are_within start (reverse l.calls) ≡ true → are_within start (reverse l.rest) ≡ true;
}

abbrev pub decreases-loop-last : goal.decreases-loop-last
decreases-loop-last l = length l.rest

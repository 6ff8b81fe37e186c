use Rattle.std.proofs.Common.{◌≡◌, length, reverse, max}
use Rattle.relay_disk.specs.Pick.{reach}
use Rattle.relay_disk.proofs.pick.reach.Given as goal

abbrev pub invariant-loop-last : goal.invariant-loop-last
invariant-loop-last l = max l.end (reach (reverse l.rest)) ≡ reach (reverse l.calls)

abbrev pub decreases-loop-last : goal.decreases-loop-last
decreases-loop-last l = length l.rest

use Rattle.std.proofs.Common.{◌≡◌, length, reverse}
use Rattle.relay_disk.specs.Pick.{is_written}
use Rattle.relay_disk.proofs.pick.is_written.Given as goal

abbrev pub invariant-loop-last : goal.invariant-loop-last
invariant-loop-last l = is_written (reverse l.rest) l.at ≡ is_written (reverse l.calls) l.at

abbrev pub decreases-loop-last : goal.decreases-loop-last
decreases-loop-last l = length l.rest

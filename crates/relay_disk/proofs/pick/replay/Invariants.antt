use Rattle.std.proofs.Common.{◌≡◌, reverse, take}
use Rattle.relay_disk.specs.MayLeave.{seen_after}
use Rattle.relay_disk.proofs.pick.replay.Given as goal

abbrev pub invariant-loop-call : goal.invariant-loop-call
invariant-loop-call l = l.image.items ≡ seen_after l.start (reverse (take l.call-index l.calls))

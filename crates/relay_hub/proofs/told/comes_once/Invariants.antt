-- those so far and the others are all
use Rattle.std.specs.Prelude.{◌≡◌, ◌+◌, drop, if◌then◌else◌}
use Rattle.std.specs.List.{AllByRecursion}
use Rattle.relay_hub.specs.Receipts.{IsRising, times}
use Rattle.relay_hub.proofs.told.comes_once.Given as goal

abbrev pub invariant-loop-pass : goal.invariant-loop-pass
invariant-loop-pass g l =
    (times l.number l.passes ≡ (if l.found then 1 else 0) + times l.number (drop l.pass-index l.passes))
    × AllByRecursion IsRising (drop l.pass-index l.passes)

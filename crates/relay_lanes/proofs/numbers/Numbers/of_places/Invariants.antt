-- those that were passed over stand there, and the others aren't there yet
use Rattle.std.proofs.Common.{◌≡◌, [], ◌++◌, drop}
use Rattle.relay_lanes.specs.Numbers.{numbers_after}
use Rattle.relay_lanes.proofs.numbers.Numbers.of_places.Given as goal

abbrev pub invariant-loop-number : goal.invariant-loop-number
invariant-loop-number l =
    (l.numbers.newer ++ numbers_after l.last (drop l.number-index l.places) ≡ numbers_after 0 l.places)
    × (l.numbers.left ≡ []) × (l.numbers.passed ≡ [])

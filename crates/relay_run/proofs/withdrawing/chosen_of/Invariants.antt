-- the places so far are chosen
use Rattle.std.proofs.Common.{◌≡◌, map, take}
use Rattle.relay_loop.specs.Withdrawing.{choice_of}
use Rattle.relay_run.specs.Withdrawing.{places_of}
use Rattle.relay_run.proofs.withdrawing.chosen_of.Given as goal

abbrev pub invariant-loop-named : goal.invariant-loop-named
invariant-loop-named l = map choice_of l.chosen.items ≡ map places_of (take l.named-index l.names)

-- the places so far, and those to come
use Rattle.std.proofs.Common.{◌≡◌, ◌++◌, drop}
use Rattle.relay_attempts.specs.Hops.{places_where}
use Rattle.relay_attempts.specs.Withdrawals.{is_held_of, named_places}
use Rattle.relay_attempts.proofs.withdraw.named_places.Given as goal

abbrev pub invariant-loop-index : goal.invariant-loop-index
invariant-loop-index l =
    l.places.items ++ places_where (is_held_of l.names) l.index (drop l.index l.message.places)
    ≡ named_places l.names l.message

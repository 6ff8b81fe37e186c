-- the places so far, and those to come
use Rattle.std.proofs.Common.{◌≡◌, ◌++◌, drop}
use Rattle.relay_attempts.specs.Hops.{is_stranded, places_where, stranded_places}
use Rattle.relay_attempts.proofs.hops.stranded_places.Given as goal

abbrev pub invariant-loop-index : goal.invariant-loop-index
invariant-loop-index l =
    l.places.items ++ places_where (is_stranded l.table l.recipients) l.index (drop l.index l.message.places)
    ≡ stranded_places l.table l.message

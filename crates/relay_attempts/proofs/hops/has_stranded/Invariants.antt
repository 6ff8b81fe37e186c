-- no place so far is stranded
use Rattle.std.proofs.Common.{◌≡◌, drop}
use Rattle.relay_attempts.specs.Hops.{is_any, is_stranded, places_where, stranded_places}
use Rattle.relay_attempts.proofs.hops.has_stranded.Given as goal

abbrev pub invariant-loop-index : goal.invariant-loop-index
invariant-loop-index l =
    is_any (places_where (is_stranded l.table l.recipients) l.index (drop l.index l.message.places))
    ≡ is_any (stranded_places l.table l.message)

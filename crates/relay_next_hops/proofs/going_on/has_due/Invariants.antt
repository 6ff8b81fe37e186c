-- no place so far is due
use Rattle.std.proofs.Common.{◌≡◌, drop}
use Rattle.relay_attempts.specs.Hops.{due_places_in, is_any, is_due_for, places_where}
use Rattle.relay_next_hops.proofs.going_on.has_due.Given as goal

abbrev pub invariant-loop-index : goal.invariant-loop-index
invariant-loop-index l =
    is_any (places_where (is_due_for l.routes l.recipients l.name l.now.moment) l.index (drop l.index l.message.places))
    ≡ is_any (due_places_in l.routes l.name l.now.moment l.message)

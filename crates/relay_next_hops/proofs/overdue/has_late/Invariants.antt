-- none of those that were passed over is late
use Rattle.std.proofs.Common.{◌≡◌, drop}
use Rattle.std.specs.List.{list_any}
use Rattle.relay_next_hops.specs.Overdue.{is_late}
use Rattle.relay_next_hops.proofs.overdue.has_late.Given as goal

abbrev pub invariant-loop-place : goal.invariant-loop-place
invariant-loop-place l = list_any (is_late l.now.moment) (drop l.place-index l.places) ≡ list_any (is_late l.now.moment) l.places

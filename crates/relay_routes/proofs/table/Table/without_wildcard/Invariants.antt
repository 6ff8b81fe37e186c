-- The table has the named routes of those so far.
use Rattle.std.proofs.Common.{◌≡◌}
use Rattle.relay_routes.specs.Indexed.{routes_of}
use Rattle.relay_routes.proofs.CopyLemmas.{Copied}
use Rattle.relay_routes.proofs.table.Table.without_wildcard.Given as goal

abbrev pub invariant-routes : goal.invariant-routes
invariant-routes l =
    (goal.iterator-routes).can_next l.domain-iterator × (goal.iterator-routes).is_finite l.domain-iterator
    × Copied l.fn.self.routes (routes_of l.domain-iterator) l.table.routes
    × (l.table.host ≡ l.fn.self.host)

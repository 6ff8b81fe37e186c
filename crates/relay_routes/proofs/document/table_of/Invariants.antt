-- The routes so far are those of the members so far.
use Rattle.std.proofs.Common.{◌≡◌}
use Rattle.toml.specs.View.{members_view}
use Rattle.relay_routes.proofs.MemberLemmas.{Walked}
use Rattle.relay_routes.proofs.document.table_of.Given as goal

abbrev pub invariant-members : goal.invariant-members
invariant-members l =
    (goal.iterator-members).can_next l.key-iterator × (goal.iterator-members).is_finite l.key-iterator
    × Walked (members_view l.fn.members.entries) (members_view l.key-iterator) l.table.routes
    × (l.table.host ≡ l.fn.host)

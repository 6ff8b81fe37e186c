-- Both maps have the route after the others.
use Rattle.std.proofs.Common.{◌≡◌, ◌++◌, ◌∷◌, [], None, bytes_eq, ap, ◌∙◌}
use Rattle.indexmap.specs.IndexMap.{insert_entry}
use Rattle.indexmap.proofs.CallerLemmas.{insert_entry-new}
use Rattle.relay_routes.specs.Indexed.{value_at}
use Rattle.relay_routes.proofs.RouteLemmas.{entry_is, indexed_with_one_more, routes_of-push}
use Rattle.relay_routes.proofs.table.Table.insert.Goals as goal

pub invariant_of-self-2 : goal.invariant_of-self-2
invariant_of-self-2 c =
    let given = c.requires.domain in
    let known = c.requires.place in
    let none = rw (← c.self.view_is) at given in
    let absent : value_at c.args.domain.items c.self.inside.hops.entries ≡ None = entry_is c.args.domain.items c.self.inside.hops.entries ∙ none in
    let hops : c.insert.new.self.entries ≡ c.self.inside.hops.entries ++ (c.args.domain, c.args.hop) ∷ [] =
    c.in_ok-insert.ensures.entries ∙ insert_entry-new _ c.self.inside.hops c.args.domain c.args.hop absent in
    let places : c.insert-2.new.self.entries ≡ insert_entry (λ x y. bytes_eq x.items y.items) c.self.inside.places.entries c.in_ok-name.name c.args.hop.at =
    c.in_ok-insert-2.ensures.entries ∙ ap (λ es. insert_entry (λ x y. bytes_eq x.items y.items) es c.in_ok-name.name c.args.hop.at) c.reserve.ensures.entries in
    let named = c.in_ok-name.ensures.items in
    rw (hops, routes_of-push c.self.inside.hops.entries c.args.domain c.args.hop, places)
    (indexed_with_one_more _ c.self.inside.places.entries c.args.domain.items c.args.hop c.in_ok-name.name c.self.invariant none (rw (← c.self.view_is) at known)
    (named ∙ c.as_slice.ensures.value))

pub returns-clause-added : goal.returns-clause-added
returns-clause-added c =
    let given = c.requires.domain in
    let none = rw (← c.self.view_is) at given in
    let absent : value_at c.args.domain.items c.self.inside.hops.entries ≡ None = entry_is c.args.domain.items c.self.inside.hops.entries ∙ none in
    let hops : c.insert.new.self.entries ≡ c.self.inside.hops.entries ++ (c.args.domain, c.args.hop) ∷ [] =
    c.in_ok-insert.ensures.entries ∙ insert_entry-new _ c.self.inside.hops c.args.domain c.args.hop absent in
    rw (hops, routes_of-push c.self.inside.hops.entries c.args.domain c.args.hop, ← c.self.view_is)

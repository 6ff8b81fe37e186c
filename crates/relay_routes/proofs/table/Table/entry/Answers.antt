-- What the map has is what the routes say.
use Rattle.std.proofs.Common.{◌∙◌}
use Rattle.relay_routes.proofs.RouteLemmas.{entry_is}
use Rattle.relay_routes.proofs.table.Table.entry.Goals as goal

pub returns : goal.returns
returns c =
    rw (← c.self.view_is) (c.get.ensures.value ∙ entry_is c.args.domain.now c.self.inside.hops.entries)

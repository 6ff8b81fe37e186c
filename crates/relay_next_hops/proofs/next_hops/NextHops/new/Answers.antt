-- The number of the configuration is that of the table of connections.
use Rattle.std.proofs.Common.{ap, ◌∙◌}
use Rattle.relay_lanes.specs.Portions.{fresh}
use Rattle.relay_next_hops.proofs.next_hops.NextHops.new.Goals as goal

pub returns-clause-portions : goal.returns-clause-portions
returns-clause-portions g c = c.in_ok-new.ensures.portions ∙ ap fresh c.from.ensures

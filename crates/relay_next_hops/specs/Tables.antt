-- What holds between calls for the connections to next hops and their lanes.
use Rattle.std.specs.Prelude.{List}
use Rattle.relay_routes.specs.Routes.{Route}
use Rattle.relay_next_hops.specs.Counts.{CountsMatch}
use Rattle.relay_next_hops.specs.Deliveries.{AreAimed}
use Rattle.relay_next_hops.specs.declared.next_hops.NextHops.{NextHops}

-- Each connection leads to the address that the routes give for its next hop, and each lane is running as many attempts
-- as it has connections.
pub record TablesMatch {S : Type 0} (routes : List Route) (next_hops : NextHops S) : Type 0 where
  pub aimed : AreAimed routes next_hops.hops.hops
  pub counts : CountsMatch next_hops.hops.hops next_hops.lanes.paces

use Rattle.relay_routes.proofs.RoutedLemmas.{routed_is_named}
use Rattle.relay_routes.proofs.laws.routed_is_named.Goals as goal

pub returns : goal.returns
returns c = routed_is_named

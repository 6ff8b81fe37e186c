use Rattle.relay_routes.proofs.HopLemmas.{config_is_named}
use Rattle.relay_routes.proofs.laws.config_is_named.Goals as goal

pub returns : goal.returns
returns c = config_is_named

use Rattle.relay_routes.proofs.HopLemmas.{hop_at_is_hop_of}
use Rattle.relay_routes.proofs.laws.hop_at_is_hop_of.Goals as goal

pub returns : goal.returns
returns c = hop_at_is_hop_of

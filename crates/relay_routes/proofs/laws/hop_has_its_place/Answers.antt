use Rattle.relay_routes.proofs.HopLemmas.{hop_has_its_place}
use Rattle.relay_routes.proofs.laws.hop_has_its_place.Goals as goal

pub returns : goal.returns
returns c = hop_has_its_place

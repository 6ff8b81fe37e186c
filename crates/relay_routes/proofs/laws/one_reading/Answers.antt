use Rattle.relay_routes.proofs.ReadingLemmas.{one_reading}
use Rattle.relay_routes.proofs.laws.one_reading.Goals as goal

pub returns : goal.returns
returns c = one_reading

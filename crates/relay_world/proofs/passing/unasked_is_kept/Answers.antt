use Rattle.relay_world.proofs.PromiseLemmas.{unasked_is_kept}
use Rattle.relay_world.proofs.passing.unasked_is_kept.Goals as goal

pub returns : goal.returns
returns g c = unasked_is_kept _

use Rattle.relay_world.proofs.PromiseLemmas.{promise_is_kept}
use Rattle.relay_world.proofs.passing.promise_is_kept.Goals as goal

pub returns : goal.returns
returns g c = λ h. promise_is_kept g.D.Disk.honest g.D.Disk.words (g.met.D.Disk.sees_now h) h

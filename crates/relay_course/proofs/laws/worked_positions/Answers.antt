use Rattle.std.proofs.Common.{refl}
use Rattle.relay_course.proofs.laws.worked_positions.Goals as goal

pub returns : goal.returns
returns c = (refl, refl, refl, refl, refl, refl, refl)

-- the law
use Rattle.relay_report.proofs.FreeLemmas.{boundary_is_one}
use Rattle.relay_report.proofs.laws.boundary_is_one.Goals as goal

pub returns : goal.returns
returns c = boundary_is_one

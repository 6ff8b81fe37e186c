-- the law
use Rattle.relay_report.proofs.SplitLemmas.{parts_are_one}
use Rattle.relay_report.proofs.laws.parts_are_one.Goals as goal

pub returns : goal.returns
returns c = parts_are_one

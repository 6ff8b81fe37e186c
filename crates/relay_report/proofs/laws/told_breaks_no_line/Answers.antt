-- the law
use Rattle.relay_report.proofs.PlainLemmas.{told_breaks_no_line}
use Rattle.relay_report.proofs.laws.told_breaks_no_line.Goals as goal

pub returns : goal.returns
returns c = told_breaks_no_line

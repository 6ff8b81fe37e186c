-- the law
use Rattle.relay_report.proofs.ReportSplitLemmas.{report_comes_apart}
use Rattle.relay_report.proofs.laws.report_comes_apart.Goals as goal

pub returns : goal.returns
returns c = report_comes_apart

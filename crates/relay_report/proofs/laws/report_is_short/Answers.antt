-- the law
use Rattle.relay_report.proofs.ReportShortLemmas.{report_is_short}
use Rattle.relay_report.proofs.laws.report_is_short.Goals as goal

pub returns : goal.returns
returns c = report_is_short

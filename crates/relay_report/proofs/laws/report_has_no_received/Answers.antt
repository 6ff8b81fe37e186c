-- the law
use Rattle.relay_report.proofs.LineLemmas.{report_has_no_received}
use Rattle.relay_report.proofs.laws.report_has_no_received.Goals as goal

pub returns : goal.returns
returns c = report_has_no_received

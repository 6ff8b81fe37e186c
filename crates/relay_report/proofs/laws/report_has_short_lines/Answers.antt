-- the law
use Rattle.relay_report.proofs.LineLemmas.{report_has_short_lines}
use Rattle.relay_report.proofs.laws.report_has_short_lines.Goals as goal

pub returns : goal.returns
returns c = report_has_short_lines

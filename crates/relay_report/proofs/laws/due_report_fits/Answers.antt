-- the law
use Rattle.relay_report.proofs.FitLemmas.{due_report_fits}
use Rattle.relay_report.proofs.laws.due_report_fits.Goals as goal

pub returns : goal.returns
returns c = due_report_fits

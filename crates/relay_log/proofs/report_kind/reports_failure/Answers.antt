-- the text is the field, after a line end
use Rattle.std.proofs.Common.{List, ℕ, sym, subst}
use Rattle.relay_report.specs.Boundary.{StandsIn}
use Rattle.relay_log.proofs.ReportKindLemmas.{failure_field}
use Rattle.relay_log.proofs.report_kind.reports_failure.Goals as goal

pub returns : goal.returns
returns c = (
  (λ is. subst (λ (text : List ℕ). StandsIn text c.args.status.now) (sym failure_field) (c.has_text.ensures.0 is)),
  (λ stands. c.has_text.ensures.1 (subst (λ (text : List ℕ). StandsIn text c.args.status.now) failure_field stands)),
)

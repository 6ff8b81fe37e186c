-- A report has its parts in one way.
use Rattle.std.proofs.Common.{refl, subst}
use Rattle.relay_report.proofs.Theorems.{parts_are_one}
use Rattle.relay_log.specs.ReportKind.{IsWorst}
use Rattle.relay_log.proofs.report_kind.report_kind.Goals as goal

pub returns-in-None : goal.returns-in-None
returns-in-None c = record {
  worst = λ one two three has. absurd (c.in-None.ensures.none one two three has);
  none = λ _. refl;
}

pub returns-in-Some : goal.returns-in-Some
returns-in-Some c =
    let parts = c.in-Some.parts in
    let own = c.in-Some.ensures in
    record {
      worst = λ one two three has.
          subst (λ status. IsWorst status c.worst_of.result)
          (parts_are_one c.args.report.now parts.first.now parts.second.now parts.third.now one two three own has).1 c.worst_of.ensures;
      none = λ no. absurd (no.none parts.first.now parts.second.now parts.third.now own);
    }

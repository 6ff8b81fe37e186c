-- three passes, one over each part, and the least outside
use Rattle.std.proofs.Common.{rules}
use Rattle.std.proofs.lemmas.Result.{IfOk-weaker}
use Rattle.relay_report.proofs.LeastLemmas.{least_of_passes}
use Rattle.relay_report.proofs.boundary.boundary_number.Goals as goal

pub returns : goal.returns
returns c = IfOk-weaker c.least_outside.result _ _
    (λ number is. search (rules, least_of_passes, is, c.in_ok-collect.ensures, c.in_ok-collect-2.ensures, c.in_ok-collect-3.ensures))
    c.least_outside.ensures

-- a CR, or none
use Rattle.relay_report.proofs.SplitLemmas.{cr_begins_not}
use Rattle.std.proofs.Common.{rules}
use Rattle.relay_report.proofs.parts.has_no_cr.Goals as goal

pub returns-in-Some : goal.returns-in-Some
returns-in-Some c = (λ is. search rules, λ once. absurd (cr_begins_not c.args.line.now c.in-Some.field-0 c.in-Some.ensures once))

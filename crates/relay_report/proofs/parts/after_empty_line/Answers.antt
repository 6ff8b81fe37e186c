-- no line, or another one
use Rattle.std.proofs.Common.{arith, refl}
use Rattle.relay_report.proofs.SplitLemmas.{no_line, other_line}
use Rattle.relay_report.proofs.parts.after_empty_line.Goals as goal

pub returns-in-None-clause-line : goal.returns-in-None-clause-line
returns-in-None-clause-line c = no_line c.args.text.now c.in-None.ensures.first

pub returns-else-size-eq0-clause-line : goal.returns-else-size-eq0-clause-line
returns-else-size-eq0-clause-line c =
    other_line c.args.text.now _ _ c.in-Some.size c.in-Some.ensures.first refl c.in-Some.ensures.within (λ none. omega (arith, none))

-- no place is nearer after another one
use Rattle.relay_report.specs.Numbers.{NextIsAfter}
use Rattle.relay_report.proofs.numbers.least_step.Given as goal

abbrev pub invariant-loop-step : goal.invariant-loop-step
invariant-loop-step l = NextIsAfter l.stem l.step

-- A text is a number in the range, or counts as the least.
use Rattle.std.proofs.Common.{arith}
use Rattle.relay_arguments.proofs.NumberLemmas.{not_in_range, number_in_range}
use Rattle.relay_arguments.proofs.words.number_of.Goals as goal

pub returns-then-number-least-clause-number : goal.returns-then-number-least-clause-number
returns-then-number-least-clause-number c = not_in_range c.args.least c.args.most c.args.text.now (λ a. let low = a.2 in let is = c.in-Ok.ensures.value.0.1 in omega (arith, low, is))

pub returns-then-most-number-clause-number : goal.returns-then-most-number-clause-number
returns-then-most-number-clause-number c = not_in_range c.args.least c.args.most c.args.text.now (λ a. let high = a.3 in let is = c.in-Ok.ensures.value.0.1 in omega (arith, high, is))

pub returns-else-most-number-clause-number : goal.returns-else-most-number-clause-number
returns-else-most-number-clause-number c = number_in_range c.args.least c.args.most c.args.text.now c.in-Ok.number c.in-Ok.ensures.value.0.0 c.in-Ok.ensures.value.0.1 (omega arith) (omega arith)

pub returns-in-Err-clause-number : goal.returns-in-Err-clause-number
returns-in-Err-clause-number c = not_in_range c.args.least c.args.most c.args.text.now (λ a. c.in-Err.ensures.value.0 (a.0, a.1))

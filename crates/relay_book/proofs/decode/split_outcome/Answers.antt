use Rattle.relay_book.proofs.BeginLemmas.{begins_with_hop}
use Rattle.relay_book.proofs.FaultLemmas.{fault_passed}
use Rattle.relay_book.proofs.OutcomeLemmas.{no_head, no_report, no_rulings, outcome_spelled}
use Rattle.relay_book.proofs.decode.split_outcome.Goals as goal

pub returns-in_default-clause-bad : goal.returns-in_default-clause-bad
returns-in_default-clause-bad c = λ _. no_head c.args.text.now c.in_default.ensures

pub returns-in_err-rulings-clause-bad : goal.returns-in_err-rulings-clause-bad
returns-in_err-rulings-clause-bad c = λ bad. no_rulings c.args.text.now c.in-Some.message c.in-Some.at c.in-Some.hop.now c.in-Some.rest.now c.in-Some.ensures (c.in_err-rulings.ensures.bad (fault_passed c.from_residual.result _ _ c.from_residual.ensures.1 bad))

pub returns-in_err-rulings-clause-memory : goal.returns-in_err-rulings-clause-memory
returns-in_err-rulings-clause-memory c = λ bad. begins_with_hop c.args.text.now c.in-Some.message c.in-Some.at c.in-Some.hop.now c.in-Some.rest.now c.in-Some.ensures (c.in_err-rulings.ensures.memory (fault_passed c.from_residual.result _ _ c.from_residual.ensures.1 bad))

pub returns-in-Some-read_last-clause-fields : goal.returns-in-Some-read_last-clause-fields
returns-in-Some-read_last-clause-fields c =
    outcome_spelled c.args.text.now c.in-Some.message c.in-Some.at c.in-Some.hop.now c.in-Some.rest.now c.in_ok-rulings.rulings c.in_ok-rulings.rest.now c.in-Some-read_last.report.now c.in-Some.ensures
    c.in_ok-rulings.ensures.counted.1 c.in_ok-rulings.ensures.counted.0 c.in-Some-read_last.ensures.0 c.in-Some-read_last.ensures.1

pub returns-in-None-clause-bad : goal.returns-in-None-clause-bad
returns-in-None-clause-bad c =
    λ _. no_report c.args.text.now c.in-Some.message c.in-Some.at c.in-Some.hop.now c.in-Some.rest.now c.in_ok-rulings.rulings c.in_ok-rulings.rest.now c.in-Some.ensures
    c.in_ok-rulings.ensures.counted.1 c.in_ok-rulings.ensures.counted.0 c.in-None.ensures

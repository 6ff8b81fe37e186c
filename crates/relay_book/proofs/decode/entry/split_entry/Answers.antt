use Rattle.relay_book.proofs.FaultLemmas.{fault_passed}
use Rattle.relay_book.proofs.EntryHeadLemmas.{entry_of, no_long}
use Rattle.relay_book.proofs.decode.entry.split_entry.Goals as goal

pub returns-in_err-number-clause-bad : goal.returns-in_err-number-clause-bad
returns-in_err-number-clause-bad c = λ bad. c.in_err-number.ensures.bad (fault_passed c.from_residual.result _ _ c.from_residual.ensures.1 bad)

pub returns-in-Some-clause-fields : goal.returns-in-Some-clause-fields
returns-in-Some-clause-fields c =
    entry_of c.args.version c.args.text.now c.in_ok-number.number c.in_ok-number.at c.in_ok-number.path.now c.in_ok-number.ret c.in_ok-number.envid.now c.in_ok-number.recipients
    c.in_ok-number.places c.in_ok-number.rest.now c.in-Some.stored_text.now c.in-Some.rest.now c.in_ok-number.ensures.fields c.in-Some.ensures.0 c.in-Some.ensures.1

pub returns-in-None-clause-bad : goal.returns-in-None-clause-bad
returns-in-None-clause-bad c =
    λ _. no_long c.args.version c.args.text.now c.in_ok-number.number c.in_ok-number.at c.in_ok-number.path.now c.in_ok-number.ret c.in_ok-number.envid.now c.in_ok-number.recipients
    c.in_ok-number.places c.in_ok-number.rest.now c.in_ok-number.ensures.fields c.in-None.ensures

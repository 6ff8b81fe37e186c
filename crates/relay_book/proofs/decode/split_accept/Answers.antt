use Rattle.std.proofs.Common.{◌<◌, ◌^◌, rules}
use Rattle.relay_book.proofs.AcceptLemmas.{accept_spelled, no_mail_fields, no_moment, no_recipients, no_stored_text}
use Rattle.relay_book.proofs.BeginLemmas.{begins_with_mail}
use Rattle.relay_book.proofs.FaultLemmas.{fault_passed}
use Rattle.relay_book.proofs.decode.split_accept.Goals as goal

pub returns-in_default-clause-bad : goal.returns-in_default-clause-bad
returns-in_default-clause-bad c = λ _. no_moment c.args.text.now c.in_default.ensures

pub returns-in_default-read_fields-clause-bad : goal.returns-in_default-read_fields-clause-bad
returns-in_default-read_fields-clause-bad c =
    let at_fits : c.in-Some.at < 2 ^ 64 = search rules in
    λ _. no_mail_fields c.args.text.now c.in-Some.at c.in-Some.rest.now c.in-Some.ensures at_fits c.in_default-read_fields.ensures

pub returns-in_err-recipients-clause-bad : goal.returns-in_err-recipients-clause-bad
returns-in_err-recipients-clause-bad c =
    let at_fits : c.in-Some.at < 2 ^ 64 = search rules in
    λ bad. no_recipients c.args.text.now c.in-Some.at c.in-Some.rest.now c.in-Some-read_fields.path.now c.in-Some-read_fields.ret c.in-Some-read_fields.envid.now c.in-Some-read_fields.rest.now c.in-Some.ensures at_fits c.in-Some-read_fields.ensures
    (c.in_err-recipients.ensures.bad (fault_passed c.from_residual.result _ _ c.from_residual.ensures.1 bad))

pub returns-in_err-recipients-clause-memory : goal.returns-in_err-recipients-clause-memory
returns-in_err-recipients-clause-memory c =
    let at_fits : c.in-Some.at < 2 ^ 64 = search rules in
    λ bad. begins_with_mail c.args.text.now c.in-Some.at c.in-Some.rest.now c.in-Some-read_fields.path.now c.in-Some-read_fields.ret c.in-Some-read_fields.envid.now c.in-Some-read_fields.rest.now c.in-Some.ensures at_fits c.in-Some-read_fields.ensures
    (c.in_err-recipients.ensures.memory (fault_passed c.from_residual.result _ _ c.from_residual.ensures.1 bad))

pub returns-in-Some-read_last-clause-fields : goal.returns-in-Some-read_last-clause-fields
returns-in-Some-read_last-clause-fields c =
    let at_fits : c.in-Some.at < 2 ^ 64 = search rules in
    accept_spelled c.args.text.now c.in-Some.at c.in-Some.rest.now c.in-Some-read_fields.path.now c.in-Some-read_fields.ret c.in-Some-read_fields.envid.now c.in-Some-read_fields.rest.now c.in_ok-recipients.recipients c.in_ok-recipients.rest.now c.in-Some-read_last.stored_text.now
    c.in-Some.ensures at_fits c.in-Some-read_fields.ensures c.in_ok-recipients.ensures.counted.1 c.in_ok-recipients.ensures.counted.0 c.in-Some-read_last.ensures.0 c.in-Some-read_last.ensures.1

pub returns-in-None-clause-bad : goal.returns-in-None-clause-bad
returns-in-None-clause-bad c =
    let at_fits : c.in-Some.at < 2 ^ 64 = search rules in
    λ _. no_stored_text c.args.text.now c.in-Some.at c.in-Some.rest.now c.in-Some-read_fields.path.now c.in-Some-read_fields.ret c.in-Some-read_fields.envid.now c.in-Some-read_fields.rest.now c.in_ok-recipients.recipients c.in_ok-recipients.rest.now c.in-Some.ensures at_fits
    c.in-Some-read_fields.ensures c.in_ok-recipients.ensures.counted.1 c.in_ok-recipients.ensures.counted.0 c.in-None.ensures

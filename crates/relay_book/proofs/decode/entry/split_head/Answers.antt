use Rattle.std.proofs.Common.{◌<◌, ◌^◌, rules}
use Rattle.relay_book.proofs.FaultLemmas.{fault_passed}
use Rattle.relay_book.proofs.EntryFieldLemmas.{no_mail_fields, no_moment, no_number, no_placed}
use Rattle.relay_book.proofs.EntryHeadLemmas.{entry_head}
use Rattle.relay_book.proofs.decode.entry.split_head.Goals as goal

pub returns-in_default-clause-bad : goal.returns-in_default-clause-bad
returns-in_default-clause-bad c = λ _. no_number c.args.version c.args.text.now c.in_default.ensures

pub returns-in_default-read_8-clause-bad : goal.returns-in_default-read_8-clause-bad
returns-in_default-read_8-clause-bad c =
    let number_fits : c.in-Some.number < 2 ^ 64 = search rules in
    λ _. no_moment c.args.version c.args.text.now c.in-Some.number c.in-Some.rest.now c.in-Some.ensures number_fits c.in_default-read_8.ensures

pub returns-in_default-read_fields-clause-bad : goal.returns-in_default-read_fields-clause-bad
returns-in_default-read_fields-clause-bad c =
    let number_fits : c.in-Some.number < 2 ^ 64 = search rules in
    let at_fits : c.in-Some-read_8.at < 2 ^ 64 = search rules in
    λ _. no_mail_fields c.args.version c.args.text.now c.in-Some.number c.in-Some.rest.now c.in-Some-read_8.at c.in-Some-read_8.rest.now
    c.in-Some.ensures number_fits c.in-Some-read_8.ensures at_fits c.in_default-read_fields.ensures

pub returns-in_err-recipients-clause-bad : goal.returns-in_err-recipients-clause-bad
returns-in_err-recipients-clause-bad c =
    let number_fits : c.in-Some.number < 2 ^ 64 = search rules in
    let at_fits : c.in-Some-read_8.at < 2 ^ 64 = search rules in
    λ bad. no_placed c.args.version c.args.text.now c.in-Some.number c.in-Some.rest.now c.in-Some-read_8.at c.in-Some-read_8.rest.now c.in-Some-read_fields.path.now
    c.in-Some-read_fields.ret c.in-Some-read_fields.envid.now c.in-Some-read_fields.rest.now c.in-Some.ensures number_fits c.in-Some-read_8.ensures at_fits
    c.in-Some-read_fields.ensures (c.in_err-recipients.ensures.bad (fault_passed c.from_residual.result _ _ c.from_residual.ensures.1 bad))

pub returns-clause-fields : goal.returns-clause-fields
returns-clause-fields c =
    let number_fits : c.in-Some.number < 2 ^ 64 = search rules in
    let at_fits : c.in-Some-read_8.at < 2 ^ 64 = search rules in
    entry_head c.args.version c.args.text.now c.in-Some.number c.in-Some.rest.now c.in-Some-read_8.at c.in-Some-read_8.rest.now c.in-Some-read_fields.path.now
    c.in-Some-read_fields.ret c.in-Some-read_fields.envid.now c.in-Some-read_fields.rest.now c.in_ok-recipients.recipients c.in_ok-recipients.places
    c.in_ok-recipients.rest.now c.in-Some.ensures number_fits c.in-Some-read_8.ensures at_fits c.in-Some-read_fields.ensures c.in_ok-recipients.ensures.placed

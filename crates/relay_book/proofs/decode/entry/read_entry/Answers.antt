use Rattle.std.proofs.Common.{◌≡◌, ◌≤◌, ◌<◌, true, length, rules}
use Rattle.std.specs.List.{list_any}
use Rattle.relay_trace.specs.declared.moment.TheConstants.{LAST_SECOND}
use Rattle.relay_envelope.specs.Envelope.{envelope_from}
use Rattle.relay_envelope.specs.Mail.{mail_value}
use Rattle.relay_book.specs.Queue.{is_held}
use Rattle.relay_book.specs.Record.{text_limit}
use Rattle.relay_book.proofs.EntryFieldLemmas.{bad_mail, bad_moment, entry_found}
use Rattle.relay_book.proofs.FaultLemmas.{fault_passed, no_memory}
use Rattle.relay_book.proofs.decode.entry.read_entry.Goals as goal

pub returns-clause-entry : goal.returns-clause-entry
returns-clause-entry c =
    let moment_is : c.in-Ok.at ≡ c.in_ok-number.at = search rules in
    let late : c.in-Ok.at ≤ LAST_SECOND = search rules in
    let short : length c.in_ok-number.stored_text.now ≤ text_limit c.in_ok-number.path.now = search rules in
    let some : list_any is_held c.in_ok-number.places ≡ true = search rules in
    entry_found c.args.version c.args.text.now c.in_ok-number.number c.in_ok-number.at c.in_ok-number.path.now c.in_ok-number.ret c.in_ok-number.envid.now c.in_ok-number.recipients
    c.in_ok-number.places c.in_ok-number.stored_text.now c.in_ok-number.rest.now (envelope_from (mail_value c.in-Some.mail)) c.in_ok-envelope.envelope c.in-Ok.at
    c.in_ok-from_slice.field-0 c.in_ok-number.ensures.fields c.in-Some.ensures.0 c.in-Some.ensures.1 moment_is late short some c.in_ok-envelope.ensures
    c.in_ok-from_slice.ensures

pub returns-in_err-number-clause-bad : goal.returns-in_err-number-clause-bad
returns-in_err-number-clause-bad c = λ bad. c.in_err-number.ensures.bad (fault_passed c.from_residual.result _ _ c.from_residual.ensures.1 bad)

pub returns-in_default-clause-bad : goal.returns-in_default-clause-bad
returns-in_default-clause-bad c =
    λ _. bad_mail c.args.version c.args.text.now c.in_ok-number.number c.in_ok-number.at c.in_ok-number.path.now c.in_ok-number.ret c.in_ok-number.envid.now c.in_ok-number.recipients
    c.in_ok-number.places c.in_ok-number.stored_text.now c.in_ok-number.rest.now c.in_ok-number.ensures.fields c.in_default.ensures

pub returns-in_default-new-clause-bad : goal.returns-in_default-new-clause-bad
returns-in_default-new-clause-bad c =
    let late : LAST_SECOND < c.in_ok-number.at = search rules in
    λ _. bad_moment c.args.version c.args.text.now c.in_ok-number.number c.in_ok-number.at c.in_ok-number.path.now c.in_ok-number.ret c.in_ok-number.envid.now c.in_ok-number.recipients
    c.in_ok-number.places c.in_ok-number.stored_text.now c.in_ok-number.rest.now c.in_ok-number.ensures.fields late

pub returns-in_err-envelope-clause-bad : goal.returns-in_err-envelope-clause-bad
returns-in_err-envelope-clause-bad c = no_memory c.from_residual-in_err-envelope.result c.from_residual-in_err-envelope.ensures.1

pub returns-in_err-from_slice-clause-bad : goal.returns-in_err-from_slice-clause-bad
returns-in_err-from_slice-clause-bad c = no_memory c.from_residual-in_err-from_slice.result c.from_residual-in_err-from_slice.ensures.1

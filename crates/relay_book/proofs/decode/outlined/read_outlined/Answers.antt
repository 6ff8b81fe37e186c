-- A message is outlined, or its head is refused.
use Rattle.std.proofs.Common.{◌≡◌, ◌<◌, ◌≤◌, ◌^◌, true, false, rules}
use Rattle.std.specs.List.{list_any}
use Rattle.relay_trace.specs.declared.moment.TheConstants.{LAST_SECOND}
use Rattle.relay_envelope.specs.Envelope.{envelope_from}
use Rattle.relay_envelope.specs.Mail.{mail_value}
use Rattle.relay_book.specs.Queue.{is_held}
use Rattle.relay_book.specs.Record.{text_limit}
use Rattle.relay_book.proofs.EntryFieldLemmas.{bad_mail, bad_moment, none_in}
use Rattle.relay_book.proofs.EntryHeadLemmas.{high_number, long_text, low_number, none_held, outline_found, short_end, text_refused}
use Rattle.relay_book.proofs.FaultLemmas.{fault_passed, no_memory}
use Rattle.relay_book.proofs.decode.outlined.read_outlined.Goals as goal

pub returns-in_err-number-clause-bad : goal.returns-in_err-number-clause-bad
returns-in_err-number-clause-bad c =
    λ bad. none_in c.args.version c.args.text.now c.args.least c.args.next
    (c.in_err-number.ensures.bad (fault_passed c.from_residual.result _ _ c.from_residual.ensures.1 bad))

pub returns-in_default-clause-bad : goal.returns-in_default-clause-bad
returns-in_default-clause-bad c =
    λ _. short_end c.args.version c.args.text.now c.in_ok-number.number c.in_ok-number.at c.in_ok-number.path.now c.in_ok-number.ret c.in_ok-number.envid.now c.in_ok-number.recipients
    c.in_ok-number.places c.in_ok-number.end.now c.args.least c.args.next c.in_ok-number.ensures.fields c.in_default.ensures

pub returns-in_default-mail_of-clause-bad : goal.returns-in_default-mail_of-clause-bad
returns-in_default-mail_of-clause-bad c =
    let small : c.in-Some.count < 2 ^ 32 = search rules in
    λ _. text_refused c.args.version c.args.text.now c.in_ok-number.number c.in_ok-number.at c.in_ok-number.path.now c.in_ok-number.ret c.in_ok-number.envid.now c.in_ok-number.recipients
    c.in_ok-number.places c.in_ok-number.end.now c.in-Some.count c.in-Some.rest.now c.args.least c.args.next c.in_ok-number.ensures.fields c.in-Some.ensures small
    (λ stored after long spelled.
    none_in c.args.version c.args.text.now c.args.least c.args.next
    (bad_mail c.args.version c.args.text.now c.in_ok-number.number c.in_ok-number.at c.in_ok-number.path.now c.in_ok-number.ret c.in_ok-number.envid.now c.in_ok-number.recipients
    c.in_ok-number.places stored after spelled c.in_default-mail_of.ensures))

pub returns-in_default-new-clause-bad : goal.returns-in_default-new-clause-bad
returns-in_default-new-clause-bad c =
    let small : c.in-Some.count < 2 ^ 32 = search rules in
    let late : LAST_SECOND < c.in_ok-number.at = search rules in
    λ _. text_refused c.args.version c.args.text.now c.in_ok-number.number c.in_ok-number.at c.in_ok-number.path.now c.in_ok-number.ret c.in_ok-number.envid.now c.in_ok-number.recipients
    c.in_ok-number.places c.in_ok-number.end.now c.in-Some.count c.in-Some.rest.now c.args.least c.args.next c.in_ok-number.ensures.fields c.in-Some.ensures small
    (λ stored after long spelled.
    none_in c.args.version c.args.text.now c.args.least c.args.next
    (bad_moment c.args.version c.args.text.now c.in_ok-number.number c.in_ok-number.at c.in_ok-number.path.now c.in_ok-number.ret c.in_ok-number.envid.now c.in_ok-number.recipients
    c.in_ok-number.places stored after spelled late))

pub returns-in_err-envelope-clause-bad : goal.returns-in_err-envelope-clause-bad
returns-in_err-envelope-clause-bad c = no_memory c.from_residual-in_err-envelope.result c.from_residual-in_err-envelope.ensures.1

pub returns-in_err-outline_of_length-clause-bad : goal.returns-in_err-outline_of_length-clause-bad
returns-in_err-outline_of_length-clause-bad c = no_memory c.from_residual-in_err-outline_of_length.result c.from_residual-in_err-outline_of_length.ensures.1

pub returns-clause-head : goal.returns-clause-head
returns-clause-head c =
    let small : c.in-Some.count < 2 ^ 32 = search rules in
    let moment_is : c.in-Ok.at ≡ c.in_ok-number.at = search rules in
    let late : c.in-Ok.at ≤ LAST_SECOND = search rules in
    let short : c.in-Some.count ≤ text_limit c.in_ok-number.path.now = search rules in
    let some : list_any is_held c.in_ok-number.places ≡ true = search rules in
    let low : c.args.least ≤ c.in_ok-number.number = search rules in
    let high : c.in_ok-number.number < c.args.next = search rules in
    outline_found c.args.version c.args.text.now c.in_ok-number.number c.in_ok-number.at c.in_ok-number.path.now c.in_ok-number.ret c.in_ok-number.envid.now c.in_ok-number.recipients
    c.in_ok-number.places c.in_ok-number.end.now c.in-Some.count c.in-Some.rest.now c.args.least c.args.next (envelope_from (mail_value c.in-Some-mail_of.mail)) c.in_ok-envelope.envelope
    c.in-Ok.at c.in_ok-outline_of_length.field-0 c.in_ok-number.ensures.fields c.in-Some.ensures small c.in-Some-mail_of.ensures.0 c.in-Some-mail_of.ensures.1 moment_is late short some
    low high c.in_ok-envelope.ensures c.in_ok-outline_of_length.ensures

pub returns-then-count-text_limit-clause-bad : goal.returns-then-count-text_limit-clause-bad
returns-then-count-text_limit-clause-bad c =
    let small : c.in-Some.count < 2 ^ 32 = search rules in
    let fault : text_limit c.in_ok-number.path.now < c.in-Some.count = search rules in
    λ _. long_text c.args.version c.args.text.now c.in_ok-number.number c.in_ok-number.at c.in_ok-number.path.now c.in_ok-number.ret c.in_ok-number.envid.now c.in_ok-number.recipients
    c.in_ok-number.places c.in_ok-number.end.now c.in-Some.count c.in-Some.rest.now c.args.least c.args.next c.in_ok-number.ensures.fields c.in-Some.ensures small fault

pub returns-then-number-least-clause-bad : goal.returns-then-number-least-clause-bad
returns-then-number-least-clause-bad c =
    let small : c.in-Some.count < 2 ^ 32 = search rules in
    let fault : c.in_ok-number.number < c.args.least = search rules in
    λ _. low_number c.args.version c.args.text.now c.in_ok-number.number c.in_ok-number.at c.in_ok-number.path.now c.in_ok-number.ret c.in_ok-number.envid.now c.in_ok-number.recipients
    c.in_ok-number.places c.in_ok-number.end.now c.in-Some.count c.in-Some.rest.now c.args.least c.args.next c.in_ok-number.ensures.fields c.in-Some.ensures small fault

pub returns-then-number-next-clause-bad : goal.returns-then-number-next-clause-bad
returns-then-number-next-clause-bad c =
    let small : c.in-Some.count < 2 ^ 32 = search rules in
    let fault : c.args.next ≤ c.in_ok-number.number = search rules in
    λ _. high_number c.args.version c.args.text.now c.in_ok-number.number c.in_ok-number.at c.in_ok-number.path.now c.in_ok-number.ret c.in_ok-number.envid.now c.in_ok-number.recipients
    c.in_ok-number.places c.in_ok-number.end.now c.in-Some.count c.in-Some.rest.now c.args.least c.args.next c.in_ok-number.ensures.fields c.in-Some.ensures small fault

pub returns-then-not-any_held-clause-bad : goal.returns-then-not-any_held-clause-bad
returns-then-not-any_held-clause-bad c =
    let small : c.in-Some.count < 2 ^ 32 = search rules in
    let fault : list_any is_held c.in_ok-number.places ≡ false = search rules in
    λ _. none_held c.args.version c.args.text.now c.in_ok-number.number c.in_ok-number.at c.in_ok-number.path.now c.in_ok-number.ret c.in_ok-number.envid.now c.in_ok-number.recipients
    c.in_ok-number.places c.in_ok-number.end.now c.in-Some.count c.in-Some.rest.now c.args.least c.args.next c.in_ok-number.ensures.fields c.in-Some.ensures small fault

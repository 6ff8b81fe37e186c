use Rattle.std.proofs.Common.{◌≡◌, ◌≤◌, ◌<◌, length, rules, arith}
use Rattle.relay_trace.specs.declared.moment.TheConstants.{LAST_SECOND}
use Rattle.relay_envelope.specs.Envelope.{envelope_from}
use Rattle.relay_envelope.specs.Mail.{mail_value}
use Rattle.relay_book.specs.Record.{text_limit}
use Rattle.relay_book.proofs.AcceptLemmas.{bad_mail, bad_moment, bad_text, head_found, stored_within}
use Rattle.relay_book.proofs.BeginLemmas.{spelled_with_mail}
use Rattle.relay_book.proofs.FaultLemmas.{fault_passed, no_memory}
use Rattle.relay_book.proofs.decode.read_accept_head.Goals as goal

pub returns-in_err-at-clause-bad : goal.returns-in_err-at-clause-bad
returns-in_err-at-clause-bad c = λ bad. c.in_err-at.ensures.bad (fault_passed c.from_residual.result _ _ c.from_residual.ensures.1 bad)

pub returns-in_err-at-clause-memory : goal.returns-in_err-at-clause-memory
returns-in_err-at-clause-memory c = λ bad. c.in_err-at.ensures.memory (fault_passed c.from_residual.result _ _ c.from_residual.ensures.1 bad)

pub returns-in_default-clause-bad : goal.returns-in_default-clause-bad
returns-in_default-clause-bad c = λ _. bad_mail c.args.text.now c.in_ok-at.at c.in_ok-at.path.now c.in_ok-at.ret c.in_ok-at.envid.now c.in_ok-at.recipients c.in_ok-at.stored_text.now c.in_ok-at.ensures.fields c.in_default.ensures

pub returns-in_default-new-clause-bad : goal.returns-in_default-new-clause-bad
returns-in_default-new-clause-bad c =
    let late : LAST_SECOND < c.in_ok-at.at = search rules in
    λ _. bad_moment c.args.text.now c.in_ok-at.at c.in_ok-at.path.now c.in_ok-at.ret c.in_ok-at.envid.now c.in_ok-at.recipients c.in_ok-at.stored_text.now c.in_ok-at.ensures.fields late

pub returns-then-stored_text-text_limit-clause-bad : goal.returns-then-stored_text-text_limit-clause-bad
returns-then-stored_text-text_limit-clause-bad c =
    let long : text_limit c.in_ok-at.path.now < length c.in_ok-at.stored_text.now = search rules in
    λ _. bad_text c.args.text.now c.in_ok-at.at c.in_ok-at.path.now c.in_ok-at.ret c.in_ok-at.envid.now c.in_ok-at.recipients c.in_ok-at.stored_text.now c.in_ok-at.ensures.fields long

pub overflow_sub-head : goal.overflow_sub-head
overflow_sub-head c =
    let within = stored_within c.args.text.now c.in_ok-at.at c.in_ok-at.path.now c.in_ok-at.ret c.in_ok-at.envid.now c.in_ok-at.recipients c.in_ok-at.stored_text.now c.in_ok-at.ensures.fields in
    omega (arith, within)

pub returns-in_err-envelope-clause-bad : goal.returns-in_err-envelope-clause-bad
returns-in_err-envelope-clause-bad c = no_memory c.from_residual-in_err-envelope.result c.from_residual-in_err-envelope.ensures.1

pub returns-in_err-envelope-clause-memory : goal.returns-in_err-envelope-clause-memory
returns-in_err-envelope-clause-memory c = λ _. spelled_with_mail c.args.text.now c.in_ok-at.at c.in_ok-at.path.now c.in_ok-at.ret c.in_ok-at.envid.now c.in_ok-at.recipients c.in_ok-at.stored_text.now c.in_ok-at.ensures.fields

pub returns-clause-accept : goal.returns-clause-accept
returns-clause-accept c =
    let moment_is : c.in-Ok.at ≡ c.in_ok-at.at = search rules in
    let late : c.in-Ok.at ≤ LAST_SECOND = search rules in
    let short : length c.in_ok-at.stored_text.now ≤ text_limit c.in_ok-at.path.now = search rules in
    head_found c.args.text.now c.in_ok-at.at c.in_ok-at.path.now c.in_ok-at.ret c.in_ok-at.envid.now c.in_ok-at.recipients c.in_ok-at.stored_text.now
    (envelope_from (mail_value c.in-Some.mail)) c.in_ok-envelope.envelope c.in-Ok.at _ c.in_ok-at.ensures.fields c.in-Some.ensures.0 c.in-Some.ensures.1 moment_is late short
    c.in_ok-envelope.ensures (omega arith)

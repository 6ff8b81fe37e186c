-- field by field
use Rattle.std.proofs.Common.{◌++◌, codes, refl}
use Rattle.std.specs.Option.{option_copied}
use Rattle.relay_octets.specs.Line.{crlf}
use Rattle.relay_report.specs.StatusFields.{action_of, address_in, attempt_fields, field, original_recipient, typed, will_retry_until}
use Rattle.relay_report.proofs.JoinLemmas.{ends_by, joins_6}
use Rattle.relay_report.proofs.status_fields.push_recipient_fields.Goals as goal

pub returns : goal.returns
returns c =
    ends_by c.push_will_retry_until.result c.push_will_retry_until.new.out.items (c.push_attempt_fields.new.out.items ++ will_retry_until (option_copied c.args.attempt.until) c.args.due) _
    (joins_6 c.args.out.now.items crlf (original_recipient c.args.recipient.now.orcpt) (field (codes "Final-Recipient") (typed (codes "rfc822") (address_in c.args.recipient.now.path))) (field (codes "Action") (action_of c.args.due)) (attempt_fields c.args.attempt.form c.args.attempt.hop.now c.args.attempt.date.now c.args.due c.args.verdict.now)
    (will_retry_until (option_copied c.args.attempt.until) c.args.due)
    c.extend_from_slice.new.self.items c.push_original_recipient.new.out.items c.push_typed_field.new.out.items c.push_field.new.out.items c.push_attempt_fields.new.out.items (c.push_attempt_fields.new.out.items ++ will_retry_until (option_copied c.args.attempt.until) c.args.due)
    c.in_ok-extend_from_slice.ensures.items (cc c.in_ok-push_original_recipient.ensures) (cc c.in_ok-push_typed_field.ensures) (cc c.in_ok-push_field.ensures) c.in_ok-push_attempt_fields.ensures refl)
    c.push_will_retry_until.ensures

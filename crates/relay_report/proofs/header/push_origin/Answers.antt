-- field by field
use Rattle.std.proofs.Common.{◌++◌, codes, refl}
use Rattle.relay_report.specs.StatusFields.{field}
use Rattle.relay_report.specs.Multipart.{message_id, origin_fields, postmaster_at, subject_as}
use Rattle.relay_report.specs.Report.{told_of}
use Rattle.relay_report.proofs.JoinLemmas.{ends_by, joins_6}
use Rattle.relay_report.proofs.header.push_origin.Goals as goal

pub returns : goal.returns
unfolding origin_fields
returns c =
    let told = told_of c.args.report.now in
    let last = field (codes "MIME-Version") (codes "1.0") in
    ends_by c.push_field-3.result c.push_field-3.new.out.items (c.push_message_id.new.out.items ++ last) _
    (joins_6 c.args.out.now.items (field (codes "From") (postmaster_at told.host)) (field (codes "To") told.message.accept.envelope.reverse_path) (field (codes "Subject") (subject_as told.form told)) (field (codes "Date") c.args.date.now)
    (field (codes "Message-ID") (message_id told.form told.at told.number told.host)) last
    c.push_from.new.out.items c.push_field.new.out.items c.push_subject.new.out.items c.push_field-2.new.out.items c.push_message_id.new.out.items (c.push_message_id.new.out.items ++ last)
    c.in_ok-push_from.ensures (cc c.in_ok-push_field.ensures) c.in_ok-push_subject.ensures c.in_ok-push_field-2.ensures c.in_ok-push_message_id.ensures refl)
    c.push_field-3.ensures

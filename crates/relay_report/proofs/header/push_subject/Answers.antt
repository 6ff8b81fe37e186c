-- the name, the body and the line's end
use Rattle.std.proofs.Common.{◌++◌, codes, refl}
use Rattle.relay_octets.specs.Line.{crlf}
use Rattle.relay_report.specs.Multipart.{subject_as}
use Rattle.relay_report.specs.Report.{told_of}
use Rattle.relay_report.proofs.FieldLemmas.{field_joins}
use Rattle.relay_report.proofs.JoinLemmas.{ends_by_octets}
use Rattle.relay_report.proofs.header.push_subject.Goals as goal

pub returns : goal.returns
returns c =
    ends_by_octets c.extend_from_slice.result c.push_subject_text.new.out.items crlf c.extend_from_slice.new.self.items _
    (field_joins c.args.out.now.items (codes "Subject") (subject_as c.args.report.now.form (told_of c.args.report.now)) c.begin_field.new.out.items c.push_subject_text.new.out.items (c.push_subject_text.new.out.items ++ crlf)
    c.in_ok-begin_field.ensures c.in_ok-push_subject_text.ensures refl)
    c.extend_from_slice.ensures.items

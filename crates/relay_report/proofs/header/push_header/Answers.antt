-- the fields of every report, those of its form, and that of its encoding
use Rattle.std.proofs.Common.{◌++◌, refl}
use Rattle.relay_report.specs.Multipart.{auto_submitted, header_fields, origin_fields}
use Rattle.relay_report.specs.Report.{told_of}
use Rattle.relay_report.proofs.JoinLemmas.{ends_by_octets, joins_3}
use Rattle.relay_report.proofs.header.push_header.Goals as goal

pub returns : goal.returns
unfolding header_fields
returns c =
    let told = told_of c.args.report.now in
    ends_by_octets c.extend_from_slice.result c.push_auto_submitted.new.out.items c.args.encoding.now c.extend_from_slice.new.self.items _
    (joins_3 c.args.out.now.items (origin_fields told c.args.date.now) (auto_submitted told.form) c.args.encoding.now
    c.push_origin.new.out.items c.push_auto_submitted.new.out.items (c.push_auto_submitted.new.out.items ++ c.args.encoding.now)
    c.in_ok-push_origin.ensures c.in_ok-push_auto_submitted.ensures refl)
    c.extend_from_slice.ensures.items

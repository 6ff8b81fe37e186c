-- the type and the encoding
use Rattle.std.proofs.Common.{◌++◌, codes, refl}
use Rattle.relay_report.specs.StatusFields.{field}
use Rattle.relay_report.specs.Multipart.{part_fields}
use Rattle.relay_report.proofs.JoinLemmas.{ends_by_octets, joins_2}
use Rattle.relay_report.proofs.report.push_part_fields.Goals as goal

pub returns : goal.returns
unfolding part_fields
returns c =
    ends_by_octets c.extend_from_slice.result c.push_field.new.out.items c.args.encoding.now c.extend_from_slice.new.self.items _
    (joins_2 c.args.out.now.items (field (codes "Content-Type") c.args.kind.now) c.args.encoding.now c.push_field.new.out.items (c.push_field.new.out.items ++ c.args.encoding.now)
    c.in_ok-push_field.ensures refl)
    c.extend_from_slice.ensures.items

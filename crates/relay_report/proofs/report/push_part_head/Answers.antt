-- the dashes, the boundary, the line's end, the field and the empty line
use Rattle.std.proofs.Common.{◌++◌, codes, refl}
use Rattle.relay_octets.specs.Line.{crlf}
use Rattle.relay_report.specs.Multipart.{part_fields, part_head}
use Rattle.relay_report.proofs.JoinLemmas.{ends_by_octets, joins_5}
use Rattle.relay_report.proofs.report.push_part_head.Goals as goal

pub returns : goal.returns
unfolding part_head
returns c =
    ends_by_octets c.extend_from_slice-4.result c.push_part_fields.new.out.items crlf c.extend_from_slice-4.new.self.items _
    (joins_5 c.args.out.now.items (codes "--") c.args.boundary.now crlf (part_fields c.args.kind.now c.args.encoding.now) crlf
    c.extend_from_slice.new.self.items c.extend_from_slice-2.new.self.items c.extend_from_slice-3.new.self.items c.push_part_fields.new.out.items (c.push_part_fields.new.out.items ++ crlf)
    c.in_ok-extend_from_slice.ensures.items c.in_ok-extend_from_slice-2.ensures.items c.in_ok-extend_from_slice-3.ensures.items c.in_ok-push_part_fields.ensures refl)
    c.extend_from_slice-4.ensures.items

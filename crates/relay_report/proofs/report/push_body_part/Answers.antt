-- the head, the part and the line's end
use Rattle.std.proofs.Common.{◌++◌, refl}
use Rattle.relay_octets.specs.Line.{crlf}
use Rattle.relay_report.specs.Multipart.{body_part, part_fields, part_head}
use Rattle.relay_report.proofs.JoinLemmas.{ends_by_octets, joins_3}
use Rattle.relay_report.proofs.report.push_body_part.Goals as goal

pub returns : goal.returns
unfolding body_part
returns c =
    ends_by_octets c.extend_from_slice-2.result c.extend_from_slice.new.self.items crlf c.extend_from_slice-2.new.self.items _
    (joins_3 c.args.out.now.items (part_head c.args.boundary.now (part_fields c.args.kind.now c.args.encoding.now)) c.args.part.now crlf c.push_part_head.new.out.items c.extend_from_slice.new.self.items (c.extend_from_slice.new.self.items ++ crlf)
    c.in_ok-push_part_head.ensures c.in_ok-extend_from_slice.ensures.items refl)
    c.extend_from_slice-2.ensures.items

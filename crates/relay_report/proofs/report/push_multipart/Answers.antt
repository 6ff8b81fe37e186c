-- part by part
use Rattle.std.proofs.Common.{[], ◌++◌, codes, refl}
use Rattle.relay_report.specs.Multipart.{body_part, closing_line, multipart_text, part_fields, returned_type}
use Rattle.relay_report.proofs.JoinLemmas.{ends_by, joins_4}
use Rattle.relay_report.proofs.report.push_multipart.Goals as goal

pub returns : goal.returns
unfolding multipart_text
returns c =
    ends_by c.push_closing_line.result c.push_closing_line.new.out.items (c.push_body_part-3.new.out.items ++ closing_line c.args.boundary.now) _
    (joins_4 c.args.out.now.items (body_part c.args.boundary.now (part_fields (codes "text/plain; charset=us-ascii") []) c.args.parts.now.first.now) (body_part c.args.boundary.now (part_fields (codes "message/delivery-status") []) c.args.parts.now.second.now) (body_part c.args.boundary.now (part_fields (returned_type c.args.whole) c.args.encoding.now) c.args.parts.now.third.now) (closing_line c.args.boundary.now)
    c.push_body_part.new.out.items c.push_body_part-2.new.out.items c.push_body_part-3.new.out.items (c.push_body_part-3.new.out.items ++ closing_line c.args.boundary.now)
    c.in_ok-push_body_part.ensures c.in_ok-push_body_part-2.ensures (cc c.in_ok-push_body_part-3.ensures) refl)
    c.push_closing_line.ensures

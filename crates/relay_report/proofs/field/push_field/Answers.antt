-- the name, the body and the line's end
use Rattle.std.proofs.Common.{◌++◌, codes, refl}
use Rattle.relay_octets.specs.Line.{crlf}
use Rattle.relay_report.specs.StatusFields.{field}
use Rattle.relay_report.proofs.JoinLemmas.{ends_by_octets, joins_4}
use Rattle.relay_report.proofs.field.push_field.Goals as goal

pub returns : goal.returns
unfolding field
returns c =
    ends_by_octets c.extend_from_slice-4.result c.extend_from_slice-3.new.self.items crlf c.extend_from_slice-4.new.self.items _
    (joins_4 c.args.out.now.items c.args.name.now (codes ": ") c.args.body.now crlf c.extend_from_slice.new.self.items c.extend_from_slice-2.new.self.items c.extend_from_slice-3.new.self.items (c.extend_from_slice-3.new.self.items ++ crlf)
    c.in_ok-extend_from_slice.ensures.items c.in_ok-extend_from_slice-2.ensures.items c.in_ok-extend_from_slice-3.ensures.items refl)
    c.extend_from_slice-4.ensures.items

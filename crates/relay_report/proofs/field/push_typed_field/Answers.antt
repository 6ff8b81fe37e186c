-- the front, the text and the line's end
use Rattle.std.proofs.Common.{◌++◌, refl}
use Rattle.relay_octets.specs.Line.{crlf}
use Rattle.relay_report.proofs.FieldLemmas.{typed_joins}
use Rattle.relay_report.proofs.JoinLemmas.{ends_by_octets}
use Rattle.relay_report.proofs.field.push_typed_field.Goals as goal

pub returns : goal.returns
returns c =
    ends_by_octets c.extend_from_slice-2.result c.extend_from_slice.new.self.items crlf c.extend_from_slice-2.new.self.items _
    (typed_joins c.args.out.now.items c.args.name.now c.args.kind.now c.args.text.now c.begin_typed_field.new.out.items c.extend_from_slice.new.self.items (c.extend_from_slice.new.self.items ++ crlf)
    c.in_ok-begin_typed_field.ensures c.in_ok-extend_from_slice.ensures.items refl)
    c.extend_from_slice-2.ensures.items

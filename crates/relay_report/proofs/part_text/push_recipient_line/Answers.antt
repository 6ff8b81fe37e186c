-- the action and the path
use Rattle.std.proofs.Common.{◌++◌, codes, refl}
use Rattle.relay_octets.specs.Line.{crlf}
use Rattle.relay_report.specs.StatusFields.{action_of}
use Rattle.relay_report.proofs.JoinLemmas.{ends_by_octets, joins_4}
use Rattle.relay_report.proofs.part_text.push_recipient_line.Goals as goal

pub returns : goal.returns
returns c =
    ends_by_octets c.extend_from_slice-4.result c.extend_from_slice-3.new.self.items crlf c.extend_from_slice-4.new.self.items _
    (joins_4 c.args.out.now.items (action_of c.args.due) (codes " ") c.args.recipient.now.path crlf c.extend_from_slice.new.self.items c.extend_from_slice-2.new.self.items c.extend_from_slice-3.new.self.items (c.extend_from_slice-3.new.self.items ++ crlf)
    (cc c.in_ok-extend_from_slice.ensures.items) c.in_ok-extend_from_slice-2.ensures.items (cc c.in_ok-extend_from_slice-3.ensures.items) refl)
    c.extend_from_slice-4.ensures.items

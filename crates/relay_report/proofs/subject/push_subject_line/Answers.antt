-- word by word
use Rattle.std.proofs.Common.{◌++◌, codes, refl}
use Rattle.relay_report.specs.StatusFields.{action_of}
use Rattle.relay_report.specs.Multipart.{subject_line}
use Rattle.relay_report.proofs.JoinLemmas.{ends_by_octets, joins_4}
use Rattle.relay_report.proofs.subject.push_subject_line.Goals as goal

pub returns : goal.returns
unfolding subject_line
returns c =
    ends_by_octets c.extend_from_slice-4.result c.extend_from_slice-3.new.self.items c.args.recipient.now.path c.extend_from_slice-4.new.self.items _
    (joins_4 c.args.out.now.items (codes "Delivery ") (action_of c.args.due) (codes ": ") c.args.recipient.now.path c.extend_from_slice.new.self.items c.extend_from_slice-2.new.self.items c.extend_from_slice-3.new.self.items (c.extend_from_slice-3.new.self.items ++ c.args.recipient.now.path)
    c.in_ok-extend_from_slice.ensures.items (cc c.in_ok-extend_from_slice-2.ensures.items) c.in_ok-extend_from_slice-3.ensures.items refl)
    (cc c.extend_from_slice-4.ensures.items)

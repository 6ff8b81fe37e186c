-- word by word
use Rattle.std.proofs.Common.{◌++◌, codes, decimal, refl}
use Rattle.relay_report.specs.Multipart.{id_front, message_id}
use Rattle.relay_report.proofs.JoinLemmas.{ends_by_octets, joins_6}
use Rattle.relay_report.proofs.header.push_message_id_text.Goals as goal

pub returns : goal.returns
unfolding message_id
returns c =
    ends_by_octets c.extend_from_slice-4.result c.extend_from_slice-3.new.self.items (codes ">") c.extend_from_slice-4.new.self.items _
    (joins_6 c.args.out.now.items (codes "<") (id_front c.args.form c.args.at) (decimal c.args.number) (codes "@") c.args.host.now (codes ">")
    c.extend_from_slice.new.self.items c.push_id_front.new.out.items c.push_decimal.new.out.items c.extend_from_slice-2.new.self.items c.extend_from_slice-3.new.self.items (c.extend_from_slice-3.new.self.items ++ codes ">")
    c.in_ok-extend_from_slice.ensures.items c.in_ok-push_id_front.ensures c.in_ok-push_decimal.ensures c.in_ok-extend_from_slice-2.ensures.items c.in_ok-extend_from_slice-3.ensures.items refl)
    c.extend_from_slice-4.ensures.items

-- the seconds and the period
use Rattle.std.proofs.Common.{◌++◌, codes, decimal, refl}
use Rattle.relay_report.proofs.JoinLemmas.{ends_by_octets, joins_2}
use Rattle.relay_report.proofs.header.push_moment.Goals as goal

pub returns : goal.returns
returns c =
    ends_by_octets c.extend_from_slice.result c.push_decimal.new.out.items (codes ".") c.extend_from_slice.new.self.items _
    (joins_2 c.args.out.now.items (decimal c.args.at) (codes ".") c.push_decimal.new.out.items (c.push_decimal.new.out.items ++ codes ".")
    (cc c.in_ok-push_decimal.ensures) refl)
    c.extend_from_slice.ensures.items

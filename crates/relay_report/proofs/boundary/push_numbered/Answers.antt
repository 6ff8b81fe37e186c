-- the front, the number and the line below
use Rattle.std.proofs.Common.{◌++◌, codes, decimal, refl}
use Rattle.relay_report.proofs.JoinLemmas.{ends_by_octets, joins_3}
use Rattle.relay_report.proofs.boundary.push_numbered.Goals as goal

pub returns : goal.returns
returns c =
    ends_by_octets c.extend_from_slice-2.result c.push_decimal.new.out.items (codes "_") c.extend_from_slice-2.new.self.items _
    (joins_3 c.args.out.now.items c.args.front.now (decimal c.args.number) (codes "_") c.extend_from_slice.new.self.items c.push_decimal.new.out.items (c.push_decimal.new.out.items ++ codes "_")
    c.in_ok-extend_from_slice.ensures.items c.in_ok-push_decimal.ensures refl)
    c.extend_from_slice-2.ensures.items

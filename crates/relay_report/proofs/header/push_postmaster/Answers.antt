-- word by word
use Rattle.std.proofs.Common.{◌++◌, codes, refl}
use Rattle.relay_report.specs.Multipart.{postmaster_at}
use Rattle.relay_report.proofs.JoinLemmas.{ends_by_octets, joins_3}
use Rattle.relay_report.proofs.header.push_postmaster.Goals as goal

pub returns : goal.returns
unfolding postmaster_at
returns c =
    ends_by_octets c.extend_from_slice-3.result c.extend_from_slice-2.new.self.items (codes ">") c.extend_from_slice-3.new.self.items _
    (joins_3 c.args.out.now.items (codes "<postmaster@") c.args.host.now (codes ">") c.extend_from_slice.new.self.items c.extend_from_slice-2.new.self.items (c.extend_from_slice-2.new.self.items ++ codes ">")
    c.in_ok-extend_from_slice.ensures.items c.in_ok-extend_from_slice-2.ensures.items refl)
    c.extend_from_slice-3.ensures.items

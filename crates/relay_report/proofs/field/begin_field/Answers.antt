-- the name and the colon
use Rattle.std.proofs.Common.{◌++◌, codes, refl}
use Rattle.relay_report.specs.StatusFields.{field_front}
use Rattle.relay_report.proofs.JoinLemmas.{ends_by_octets, joins_2}
use Rattle.relay_report.proofs.field.begin_field.Goals as goal

pub returns : goal.returns
unfolding field_front
returns c =
    ends_by_octets c.extend_from_slice-2.result c.extend_from_slice.new.self.items (codes ": ") c.extend_from_slice-2.new.self.items _
    (joins_2 c.args.out.now.items c.args.name.now (codes ": ") c.extend_from_slice.new.self.items (c.extend_from_slice.new.self.items ++ (codes ": "))
    c.in_ok-extend_from_slice.ensures.items refl)
    c.extend_from_slice-2.ensures.items

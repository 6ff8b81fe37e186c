-- the dashes, the boundary, and the end
use Rattle.std.proofs.Common.{ℕ, List, ◌++◌, codes, refl, sym, ap, ◌∙◌, append_assoc}
use Rattle.relay_octets.specs.Line.{crlf}
use Rattle.relay_report.specs.Multipart.{closing_line}
use Rattle.relay_report.proofs.JoinLemmas.{ends_by_octets, joins_3}
use Rattle.relay_report.proofs.report.push_closing_line.Goals as goal

pub returns : goal.returns
unfolding closing_line
returns c =
    let ending = codes "--" ++ crlf in
    ends_by_octets c.extend_from_slice-3.result c.extend_from_slice-2.new.self.items ending c.extend_from_slice-3.new.self.items _
    (joins_3 c.args.out.now.items (codes "--") c.args.boundary.now ending c.extend_from_slice.new.self.items c.extend_from_slice-2.new.self.items (c.extend_from_slice-2.new.self.items ++ ending)
    c.in_ok-extend_from_slice.ensures.items c.in_ok-extend_from_slice-2.ensures.items refl
    ∙ ap (λ (l : List ℕ). c.args.out.now.items ++ l) (sym (append_assoc (codes "--" ++ c.args.boundary.now) (codes "--") crlf)))
    c.extend_from_slice-3.ensures.items

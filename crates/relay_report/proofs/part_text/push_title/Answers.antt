-- word by word
use Rattle.std.proofs.Common.{ℕ, List, ◌++◌, codes, decimal, refl, sym, ap, ◌∙◌, append_assoc}
use Rattle.relay_octets.specs.Line.{crlf}
use Rattle.relay_report.specs.Multipart.{title_line}
use Rattle.relay_report.proofs.JoinLemmas.{ends_by_octets, joins_5}
use Rattle.relay_report.proofs.part_text.push_title.Goals as goal

pub returns : goal.returns
unfolding title_line
returns c =
    let ending = codes "." ++ crlf in
    let host = c.args.host.now in
    let number = decimal c.args.number in
    ends_by_octets c.extend_from_slice-4.result c.push_decimal.new.out.items ending c.extend_from_slice-4.new.self.items _
    (joins_5 c.args.out.now.items (codes "Delivery report of ") host (codes " for message ") number ending
    c.extend_from_slice.new.self.items c.extend_from_slice-2.new.self.items c.extend_from_slice-3.new.self.items c.push_decimal.new.out.items (c.push_decimal.new.out.items ++ ending)
    c.in_ok-extend_from_slice.ensures.items c.in_ok-extend_from_slice-2.ensures.items c.in_ok-extend_from_slice-3.ensures.items c.in_ok-push_decimal.ensures refl
    ∙ ap (λ (l : List ℕ). c.args.out.now.items ++ l)
    (sym (append_assoc (codes "Delivery report of " ++ host ++ codes " for message " ++ number) (codes ".") crlf)))
    c.extend_from_slice-4.ensures.items

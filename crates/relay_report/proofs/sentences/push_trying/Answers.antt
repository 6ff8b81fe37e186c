-- the two lines
use Rattle.std.proofs.Common.{◌++◌, codes, refl, sym, ◌∙◌, ap, append_assoc, List, ℕ}
use Rattle.std.specs.Option.{option_copied}
use Rattle.relay_octets.specs.Line.{crlf}
use Rattle.relay_report.specs.Sentences.{trying_line, trying_lines}
use Rattle.relay_report.proofs.JoinLemmas.{ends_by_octets, joins_2}
use Rattle.relay_report.proofs.sentences.push_trying.Goals as goal

pub returns : goal.returns
unfolding trying_lines
returns c =
    let front = trying_line (option_copied c.args.until) in
    let words = codes "  You need not send the message again." in
    let last = words ++ crlf in
    ends_by_octets c.extend_from_slice.result c.push_trying_line.new.out.items last c.extend_from_slice.new.self.items _
    (joins_2 c.args.out.now.items front last c.push_trying_line.new.out.items (c.push_trying_line.new.out.items ++ last)
    c.in_ok-push_trying_line.ensures refl ∙ ap (λ (l : List ℕ). c.args.out.now.items ++ l) (sym (append_assoc front words crlf)))
    c.extend_from_slice.ensures.items

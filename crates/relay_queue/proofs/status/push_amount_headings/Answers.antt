-- one heading after the other
use Rattle.std.proofs.Common.{ℕ, List, ◌-◌, ◌∙◌, append_assoc, codes, length}
use Rattle.std.proofs.lemmas.Result.{on_ok_weaker}
use Rattle.relay_queue.specs.Screen.{padding, shown}
use Rattle.relay_queue.specs.Table.{right_cell}
use Rattle.relay_queue.proofs.JoinLemmas.{joined2}
use Rattle.relay_queue.proofs.status.push_amount_headings.Goals as goal

pub returns : goal.returns
returns c =
    let old : List ℕ = c.args.screen.now in
    let between : List ℕ = c.push_right.new.screen in
    let size : List ℕ = codes "SIZE" in
    let oldest : List ℕ = codes "OLDEST" in
    on_ok_weaker c.push_right-2.result
    (λ last. joined2 old between c.push_right-2.new.screen (right_cell 12 size) (right_cell 8 oldest)
    (c.in_ok-push_right.ensures ∙ append_assoc old (padding (12 - length size)) (shown size))
    (last ∙ append_assoc between (padding (8 - length oldest)) (shown oldest)))
    c.push_right-2.ensures

-- the name, the counts, the amounts, and the rest of the line
use Rattle.std.proofs.Common.{◌≡◌, List, ℕ, ◌++◌, ◌-◌, length, ◌∙◌, append_assoc}
use Rattle.std.proofs.lemmas.Result.{on_ok_weaker}
use Rattle.relay_queue.specs.Status.{amounts_text, counts_text, next_try_text, shown_name}
use Rattle.relay_queue.specs.Screen.{padding, shown}
use Rattle.relay_queue.specs.Table.{left_cell}
use Rattle.relay_queue.proofs.JoinLemmas.{joined4}
use Rattle.relay_queue.proofs.status.push_hop.Goals as goal

pub returns : goal.returns
returns c =
    let name : List ℕ = shown_name c.args.name.now in
    let pushed = rw c.shown_name.ensures at c.in_ok-push_left.ensures in
    let named : c.push_left.new.screen ≡ c.args.screen.now ++ left_cell 24 name =
    pushed ∙ append_assoc c.args.screen.now (shown name) (padding (24 - length name)) in
    on_ok_weaker c.push_next_try.result
    (λ last. (
      c.time-time.result,
      joined4 c.args.screen.now c.push_left.new.screen c.push_counts.new.screen c.push_amounts.new.screen c.push_next_try.new.screen
          (left_cell 24 name) (counts_text c.args.load.now) (amounts_text c.args.now c.args.load.now)
          (next_try_text c.time-time.result) named c.in_ok-push_counts.ensures c.in_ok-push_amounts.ensures last,
    ))
    c.push_next_try.ensures

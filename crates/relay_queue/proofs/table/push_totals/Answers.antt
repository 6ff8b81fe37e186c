-- the sums, one after another
use Rattle.std.proofs.lemmas.Result.{on_ok_weaker}
use Rattle.relay_queue.proofs.JoinLemmas.{joined2}
use Rattle.relay_queue.proofs.table.push_totals.Goals as goal

pub returns : goal.returns
returns c =
    let old = c.args.screen.now in
    let two = joined2 old _ _ _ _ c.in_ok-push_count.ensures c.in_ok-push.ensures in
    let three = joined2 old _ _ _ _ two c.in_ok-push_count-2.ensures in
    let four = joined2 old _ _ _ _ three c.in_ok-push-2.ensures in
    let five = joined2 old _ _ _ _ four c.in_ok-push_size.ensures in
    let six = joined2 old _ _ _ _ five c.in_ok-push_oldest.ensures in
    on_ok_weaker c.end_line.result (λ last. joined2 old _ _ _ _ six last) c.end_line.ensures

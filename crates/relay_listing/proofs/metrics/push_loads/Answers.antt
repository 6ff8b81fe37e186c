-- one metric after another
use Rattle.std.proofs.lemmas.Result.{on_ok_weaker}
use Rattle.relay_listing.proofs.JoinLemmas.{joined2}
use Rattle.relay_listing.proofs.metrics.push_loads.Goals as goal

pub returns : goal.returns
returns c =
    let old = c.args.text.now.items in
    let two = joined2 old _ _ _ _ c.in_ok-push_by_hop.ensures c.in_ok-push_by_hop-2.ensures in
    let three = joined2 old _ _ _ _ two c.in_ok-push_by_hop-3.ensures in
    let four = joined2 old _ _ _ _ three c.in_ok-push_by_hop-4.ensures in
    on_ok_weaker c.push_by_hop-5.result (λ last. joined2 old _ _ _ _ four last) c.push_by_hop-5.ensures

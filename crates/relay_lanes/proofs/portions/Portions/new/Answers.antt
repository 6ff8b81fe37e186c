-- Each place has the same.
use Rattle.std.proofs.Common.{List, ap, rules}
use Rattle.relay_lanes.specs.Portions.{Shares}
use Rattle.relay_lanes.specs.declared.portions.Halved.{Halved}
use Rattle.relay_lanes.proofs.portions.Portions.new.Goals as goal

pub returns : goal.returns
returns c =
    let shares : List Halved → Shares = λ halved. record { usual = c.args.usual; halved = halved } in
    ap shares (c.in_ok-vec.ensures.items_if_clones_equal (λ other is. search rules))

-- Whatever a call gave has begun.
use Rattle.relay_rounds.specs.Round.{IsBegun}
use Rattle.relay_rounds.proofs.RowLemmas.{each_as}
use Rattle.relay_rounds.proofs.lanes.start_lanes.Goals as goal

pub returns-clause-begun : goal.returns-clause-begun
returns-clause-begun g c =
    each_as _ (IsBegun g.J.Opening.has_answered g.R.Read.remaining g.W.Write.contents c.args.shop.now.config.now c.args.shop.now.at) (λ lane one call. call.1) c.args.lanes.items c.map_into.result.items c.map_into.ensures.each

-- Each lane that began has ended.
use Rattle.std.proofs.Common.{◌∙◌}
use Rattle.relay_rounds.specs.Round.{Ends, IsBegun, IsServed}
use Rattle.relay_rounds.proofs.RowLemmas.{each_through}
use Rattle.relay_rounds.proofs.lanes.fn.serve_lanes.scope.Goals as goal

pub returns : goal.returns
returns g c =
    let config = c.captures.shop.now.config.now in
    let at = c.captures.shop.now.at in (
      each_through (IsBegun g.J.Opening.has_answered g.R.Read.remaining g.W.Write.contents config at) (Ends g.J.Opening.has_answered g.R.Read.remaining g.W.Write.contents) (IsServed g.J.Opening.has_answered g.R.Read.remaining g.W.Write.contents config at) (λ lane one new begun ended. ended config at lane begun) c.captures.lanes.items c.start_lanes-started.result.items c.end_lanes.result.items c.start_lanes-started.ensures.begun c.end_lanes.ensures.ended,
      c.end_lanes.ensures.many ∙ c.start_lanes-started.ensures.many,
    )

-- Whatever a call gave has ended.
use Rattle.relay_rounds.specs.Round.{Ends}
use Rattle.relay_rounds.proofs.RowLemmas.{each_as}
use Rattle.relay_rounds.proofs.lanes.end_lanes.Goals as goal

pub returns-clause-ended : goal.returns-clause-ended
returns-clause-ended g c =
    each_as _ (Ends g.J.Opening.has_answered g.R.Read.remaining g.W.Write.contents) (λ one lane call. call.1) c.args.started.items c.map_into.result.items c.map_into.ensures.each

use Rattle.std.proofs.Common.{◌++◌, sym, ap, ◌∙◌}
use Rattle.relay_events.specs.declared.act.Act.{Act}
use Rattle.relay_events.specs.Act.{did_of, stops_of}
use Rattle.relay_events.proofs.act.list_stop.Goals as goal

pub returns-in-Stops-clause-nodes : goal.returns-in-Stops-clause-nodes
returns-in-Stops-clause-nodes c =
    c.push.ensures ∙ ap (λ (a : Act). c.args.stopped.now ++ stops_of (did_of a)) (sym c.in-Stops.is)

use Rattle.std.proofs.Common.{◌++◌, sym, ap, ◌∙◌}
use Rattle.relay_events.specs.declared.tell.Loss.{Loss}
use Rattle.relay_events.specs.Carried.{stops_by}
use Rattle.relay_events.proofs.tell.list_loss.Goals as goal

pub returns-in-Stopped : goal.returns-in-Stopped
returns-in-Stopped c = c.push.ensures ∙ ap (λ (l : Loss). c.args.stopped.now ++ stops_by l) (sym c.in-Stopped.is)

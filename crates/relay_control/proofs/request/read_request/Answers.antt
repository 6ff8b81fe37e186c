use Rattle.relay_control.proofs.RequestLemmas.{line_of_none}
use Rattle.relay_control.proofs.request.read_request.Goals as goal

pub returns-in_default : goal.returns-in_default
returns-in_default c = line_of_none c.args.line.now c.cut.result.0.now _ c.cut.ensures c.in_default.ensures

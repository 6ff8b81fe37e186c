use Rattle.relay_control.proofs.LawLemmas.{request_is_short}
use Rattle.relay_control.proofs.laws.request_is_short.Goals as goal

pub returns : goal.returns
returns c = request_is_short

use Rattle.relay_control.proofs.LawLemmas.{request_is_read}
use Rattle.relay_control.proofs.laws.request_is_read.Goals as goal

pub returns : goal.returns
returns c = request_is_read

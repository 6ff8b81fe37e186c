use Rattle.relay_server.proofs.ReplyLemmas.{replies_are_well_formed}
use Rattle.relay_server.proofs.laws.replies_are_well_formed.Goals as goal

pub returns : goal.returns
returns c = replies_are_well_formed

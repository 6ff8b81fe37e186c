use Rattle.relay_server.proofs.ReplyLemmas.{only_queued_is_positive}
use Rattle.relay_server.proofs.laws.only_queued_is_positive.Goals as goal

pub returns : goal.returns
returns c = only_queued_is_positive

use Rattle.relay_loop.proofs.ClosingLemmas.{closing_is_reply}
use Rattle.relay_loop.proofs.laws.closing_is_reply.Goals as goal

pub returns : goal.returns
returns c = closing_is_reply

use Rattle.relay_lines.proofs.ReplyFaultLemmas.{held_is_unfinished}
use Rattle.relay_lines.proofs.reply_laws.held_is_unfinished.Goals as goal

pub returns : goal.returns
returns c = held_is_unfinished

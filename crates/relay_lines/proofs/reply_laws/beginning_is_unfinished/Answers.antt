use Rattle.relay_lines.proofs.ReplyFaultLemmas.{beginning_is_unfinished}
use Rattle.relay_lines.proofs.reply_laws.beginning_is_unfinished.Goals as goal

pub returns : goal.returns
returns c = beginning_is_unfinished

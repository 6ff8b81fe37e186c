use Rattle.relay_lines.proofs.ReplyFaultLemmas.{fault_is_one}
use Rattle.relay_lines.proofs.reply_laws.fault_is_one.Goals as goal

pub returns : goal.returns
returns c = fault_is_one

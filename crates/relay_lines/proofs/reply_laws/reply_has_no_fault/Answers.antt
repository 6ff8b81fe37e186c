use Rattle.relay_lines.proofs.ReplyFaultLemmas.{reply_has_no_fault}
use Rattle.relay_lines.proofs.reply_laws.reply_has_no_fault.Goals as goal

pub returns : goal.returns
returns c = reply_has_no_fault

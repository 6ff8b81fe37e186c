use Rattle.relay_lines.proofs.ReplyFaultLemmas.{unfinished_has_no_fault}
use Rattle.relay_lines.proofs.reply_laws.unfinished_has_no_fault.Goals as goal

pub returns : goal.returns
returns c = unfinished_has_no_fault

use Rattle.relay_lines.proofs.ReplyFaultLemmas.{fault_stays}
use Rattle.relay_lines.proofs.reply_laws.fault_stays.Goals as goal

pub returns : goal.returns
returns c = fault_stays

use Rattle.relay_lines.proofs.ReplyCutLemmas.{cut_stays}
use Rattle.relay_lines.proofs.reply_laws.cut_stays.Goals as goal

pub returns : goal.returns
returns c = cut_stays

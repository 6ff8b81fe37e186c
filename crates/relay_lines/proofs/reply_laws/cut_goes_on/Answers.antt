use Rattle.relay_lines.proofs.ReplyCutLemmas.{cut_goes_on}
use Rattle.relay_lines.proofs.reply_laws.cut_goes_on.Goals as goal

pub returns : goal.returns
returns c = cut_goes_on

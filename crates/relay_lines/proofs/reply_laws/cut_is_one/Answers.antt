use Rattle.relay_lines.proofs.ReplyCutLemmas.{cut_is_one}
use Rattle.relay_lines.proofs.reply_laws.cut_is_one.Goals as goal

pub returns : goal.returns
returns c = cut_is_one

use Rattle.relay_lines.proofs.ReplyCutLemmas.{beginning_is_cut}
use Rattle.relay_lines.proofs.reply_laws.beginning_is_cut.Goals as goal

pub returns : goal.returns
returns c = beginning_is_cut

use Rattle.relay_lines.proofs.ReplyCutLemmas.{read_is_cut}
use Rattle.relay_lines.proofs.reply_laws.read_is_cut.Goals as goal

pub returns : goal.returns
returns c = read_is_cut

use Rattle.relay_lines.proofs.ReplyLawLemmas.{written_is_read}
use Rattle.relay_lines.proofs.reply_laws.written_is_read.Goals as goal

pub returns : goal.returns
returns c = written_is_read

use Rattle.relay_lines.proofs.ReplyLawLemmas.{no_reply_begins_another}
use Rattle.relay_lines.proofs.reply_laws.no_reply_begins_another.Goals as goal

pub returns : goal.returns
returns c = no_reply_begins_another

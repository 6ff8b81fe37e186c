use Rattle.relay_body.proofs.DotTextLemmas.{written_is_read}
use Rattle.relay_body.proofs.laws.written_is_read.Goals as goal

pub returns : goal.returns
returns c = written_is_read

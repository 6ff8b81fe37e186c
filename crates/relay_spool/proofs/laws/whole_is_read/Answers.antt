use Rattle.relay_spool.proofs.PartLemmas.{whole_is_read}
use Rattle.relay_spool.proofs.laws.whole_is_read.Goals as goal

pub returns : goal.returns
returns c = whole_is_read

use Rattle.relay_book.proofs.StandLemmas.{snapshot_is_read}
use Rattle.relay_book.proofs.record_laws.snapshot_is_read.Goals as goal

pub returns : goal.returns
returns c = snapshot_is_read

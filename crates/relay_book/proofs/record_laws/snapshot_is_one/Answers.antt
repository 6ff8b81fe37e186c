use Rattle.relay_book.proofs.SnapshotLemmas.{snapshot_is_one}
use Rattle.relay_book.proofs.record_laws.snapshot_is_one.Goals as goal

pub returns : goal.returns
returns c = snapshot_is_one

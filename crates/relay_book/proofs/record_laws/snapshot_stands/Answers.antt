use Rattle.relay_book.proofs.StandLemmas.{snapshot_stands}
use Rattle.relay_book.proofs.record_laws.snapshot_stands.Goals as goal

pub returns : goal.returns
returns c = snapshot_stands

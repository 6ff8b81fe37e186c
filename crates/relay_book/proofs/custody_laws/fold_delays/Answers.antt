use Rattle.relay_book.proofs.DelayLaws.{fold_delays}
use Rattle.relay_book.proofs.custody_laws.fold_delays.Goals as goal

pub returns : goal.returns
returns c = fold_delays

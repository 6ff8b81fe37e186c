use Rattle.relay_book.proofs.QueuedLaws.{queued_is_held}
use Rattle.relay_book.proofs.custody_laws.queued_is_held.Goals as goal

pub returns : goal.returns
returns c = queued_is_held

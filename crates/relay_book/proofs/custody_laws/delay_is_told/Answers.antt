use Rattle.relay_book.proofs.DelayTold.{delay_is_told}
use Rattle.relay_book.proofs.custody_laws.delay_is_told.Goals as goal

pub returns : goal.returns
returns c = delay_is_told

use Rattle.relay_book.proofs.LengthLemmas.{record_is_short}
use Rattle.relay_book.proofs.record_laws.record_is_short.Goals as goal

pub returns : goal.returns
returns c = record_is_short

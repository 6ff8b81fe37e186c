use Rattle.relay_book.proofs.StandLemmas.{one_more_stands}
use Rattle.relay_book.proofs.record_laws.one_more_stands.Goals as goal

pub returns : goal.returns
returns c = one_more_stands

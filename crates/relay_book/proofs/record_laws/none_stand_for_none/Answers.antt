use Rattle.relay_book.proofs.StandLemmas.{none_stand_for_none}
use Rattle.relay_book.proofs.record_laws.none_stand_for_none.Goals as goal

pub returns : goal.returns
returns c = none_stand_for_none

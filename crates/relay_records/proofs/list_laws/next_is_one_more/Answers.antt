use Rattle.relay_records.proofs.ListLemmas.{next_is_one_more}
use Rattle.relay_records.proofs.list_laws.next_is_one_more.Goals as goal

pub returns : goal.returns
returns c = next_is_one_more

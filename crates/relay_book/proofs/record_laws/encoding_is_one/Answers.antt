use Rattle.relay_book.proofs.ChangeFieldLemmas.{encoding_is_one}
use Rattle.relay_book.proofs.record_laws.encoding_is_one.Goals as goal

pub returns : goal.returns
returns c = encoding_is_one

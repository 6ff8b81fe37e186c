-- The parts between spaces are a row.
use Rattle.relay_envelope.proofs.RowOfWordsLemmas.{text_is_row as law}
use Rattle.relay_envelope.proofs.parameter_laws.text_is_row.Goals as goal

pub returns : goal.returns
returns c = law

use Rattle.relay_envelope.proofs.PathLemmas.{path_is_one}
use Rattle.relay_envelope.proofs.path_laws.path_is_one.Goals as goal

pub returns : goal.returns
returns c = path_is_one

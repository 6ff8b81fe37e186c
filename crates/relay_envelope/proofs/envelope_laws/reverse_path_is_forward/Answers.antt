use Rattle.relay_envelope.proofs.ValidityLemmas.{reverse_path_is_forward}
use Rattle.relay_envelope.proofs.envelope_laws.reverse_path_is_forward.Goals as goal

pub returns : goal.returns
returns c = reverse_path_is_forward

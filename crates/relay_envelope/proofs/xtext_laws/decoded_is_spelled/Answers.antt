use Rattle.relay_envelope.proofs.XtextLemmas.{decoded_is_spelled}
use Rattle.relay_envelope.proofs.xtext_laws.decoded_is_spelled.Goals as goal

pub returns : goal.returns
returns c = decoded_is_spelled

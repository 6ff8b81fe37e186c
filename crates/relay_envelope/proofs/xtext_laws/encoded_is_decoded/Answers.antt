use Rattle.relay_envelope.proofs.XtextLemmas.{encoded_is_decoded}
use Rattle.relay_envelope.proofs.xtext_laws.encoded_is_decoded.Goals as goal

pub returns : goal.returns
returns c = encoded_is_decoded

use Rattle.relay_envelope.proofs.HostNameLemmas.{host_word_has_no_crlf}
use Rattle.relay_envelope.proofs.host_name_laws.host_word_has_no_crlf.Goals as goal

pub returns : goal.returns
returns c = host_word_has_no_crlf

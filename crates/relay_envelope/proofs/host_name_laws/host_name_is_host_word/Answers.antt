use Rattle.relay_envelope.proofs.HostNameLemmas.{host_name_is_host_word}
use Rattle.relay_envelope.proofs.host_name_laws.host_name_is_host_word.Goals as goal

pub returns : goal.returns
returns c = host_name_is_host_word

use Rattle.relay_envelope.proofs.StoredPathLemmas.{domain_in_is_domain_of}
use Rattle.relay_envelope.proofs.path_laws.domain_in_is_domain_of.Goals as goal

pub returns : goal.returns
returns c = domain_in_is_domain_of

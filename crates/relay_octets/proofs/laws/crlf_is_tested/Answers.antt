use Rattle.relay_octets.proofs.LineLemmas.{crlf_is_tested}
use Rattle.relay_octets.proofs.laws.crlf_is_tested.Goals as goal

pub returns : goal.returns
returns c = crlf_is_tested

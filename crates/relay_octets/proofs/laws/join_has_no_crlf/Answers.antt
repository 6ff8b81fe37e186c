use Rattle.relay_octets.proofs.LineLemmas.{join_has_no_crlf}
use Rattle.relay_octets.proofs.laws.join_has_no_crlf.Goals as goal

pub returns : goal.returns
returns c = join_has_no_crlf

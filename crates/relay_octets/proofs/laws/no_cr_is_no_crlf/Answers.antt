use Rattle.relay_octets.proofs.LineLemmas.{no_cr_is_no_crlf}
use Rattle.relay_octets.proofs.laws.no_cr_is_no_crlf.Goals as goal

pub returns : goal.returns
returns c = no_cr_is_no_crlf

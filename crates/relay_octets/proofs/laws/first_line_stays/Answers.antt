use Rattle.relay_octets.proofs.LineLemmas.{first_line_stays}
use Rattle.relay_octets.proofs.laws.first_line_stays.Goals as goal

pub returns : goal.returns
returns c = first_line_stays

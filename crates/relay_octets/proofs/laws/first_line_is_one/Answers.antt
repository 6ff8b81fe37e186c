use Rattle.relay_octets.proofs.LineLemmas.{first_line_is_one}
use Rattle.relay_octets.proofs.laws.first_line_is_one.Goals as goal

pub returns : goal.returns
returns c = first_line_is_one

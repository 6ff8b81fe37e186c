use Rattle.relay_lines.proofs.WordLemmas.{address_literal_is_tested}
use Rattle.relay_lines.proofs.command_laws.address_literal_is_tested.Goals as goal

pub returns : goal.returns
returns c = address_literal_is_tested

use Rattle.relay_lines.proofs.WordLemmas.{host_word_is_tested}
use Rattle.relay_lines.proofs.command_laws.host_word_is_tested.Goals as goal

pub returns : goal.returns
returns c = host_word_is_tested

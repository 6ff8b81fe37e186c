use Rattle.relay_lines.proofs.SpellingLemmas.{letter_case_is_free}
use Rattle.relay_lines.proofs.command_laws.letter_case_is_free.Goals as goal

pub returns : goal.returns
returns c = letter_case_is_free

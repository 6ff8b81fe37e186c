use Rattle.relay_lines.proofs.SpellingLemmas.{reading_is_of_spelling}
use Rattle.relay_lines.proofs.command_laws.reading_is_of_spelling.Goals as goal

pub returns : goal.returns
returns c = reading_is_of_spelling

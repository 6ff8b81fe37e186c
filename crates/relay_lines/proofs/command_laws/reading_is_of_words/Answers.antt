use Rattle.relay_lines.proofs.CommandLemmas.{reading_is_of_words}
use Rattle.relay_lines.proofs.command_laws.reading_is_of_words.Goals as goal

pub returns : goal.returns
returns c = reading_is_of_words

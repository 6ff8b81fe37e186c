use Rattle.relay_server.proofs.DialogueLemmas.{what_stands_is_a_dialogue}
use Rattle.relay_server.proofs.laws.what_stands_is_a_dialogue.Goals as goal

pub returns : goal.returns
returns c = what_stands_is_a_dialogue

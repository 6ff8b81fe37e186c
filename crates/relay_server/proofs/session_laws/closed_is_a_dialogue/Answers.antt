use Rattle.relay_server.proofs.SessionLawLemmas.{closed_is_a_dialogue}
use Rattle.relay_server.proofs.session_laws.closed_is_a_dialogue.Goals as goal

pub returns : goal.returns
returns c = closed_is_a_dialogue

use Rattle.relay_course.proofs.RelayLemmas.{commands_to_a_relay}
use Rattle.relay_course.proofs.laws.commands_to_a_relay.Goals as goal

pub returns : goal.returns
returns c = commands_to_a_relay

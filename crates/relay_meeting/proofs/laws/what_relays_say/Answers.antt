use Rattle.relay_meeting.proofs.WholeLemmas.{what_relays_say}
use Rattle.relay_meeting.proofs.laws.what_relays_say.Goals as goal

pub returns : goal.returns
returns c = what_relays_say

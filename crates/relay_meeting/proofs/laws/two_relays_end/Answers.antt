use Rattle.relay_meeting.proofs.EndLemmas.{two_relays_end}
use Rattle.relay_meeting.proofs.laws.two_relays_end.Goals as goal

pub returns : goal.returns
returns c = two_relays_end

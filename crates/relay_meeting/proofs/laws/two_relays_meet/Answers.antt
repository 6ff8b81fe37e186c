use Rattle.relay_meeting.proofs.JoinLemmas.{two_relays_meet}
use Rattle.relay_meeting.proofs.laws.two_relays_meet.Goals as goal

pub returns : goal.returns
returns c = two_relays_meet

use Rattle.relay_meeting.proofs.MeetLemmas.{meeting}
use Rattle.relay_meeting.proofs.laws.meeting.Goals as goal

pub returns : goal.returns
returns c = meeting

use Rattle.relay_meeting.proofs.ChildLemmas.{child_holds_its_places}
use Rattle.relay_meeting.proofs.laws.child_holds_its_places.Goals as goal

pub returns : goal.returns
returns c = child_holds_its_places

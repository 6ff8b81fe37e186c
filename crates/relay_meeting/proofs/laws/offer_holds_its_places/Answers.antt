use Rattle.relay_meeting.proofs.HoldLemmas.{offer_holds_its_places}
use Rattle.relay_meeting.proofs.laws.offer_holds_its_places.Goals as goal

pub returns : goal.returns
returns c = offer_holds_its_places

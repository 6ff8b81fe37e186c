use Rattle.relay_meeting.proofs.TriedLemmas.{each_place_is_tried}
use Rattle.relay_meeting.proofs.laws.each_place_is_tried.Goals as goal

pub returns : goal.returns
returns c = each_place_is_tried

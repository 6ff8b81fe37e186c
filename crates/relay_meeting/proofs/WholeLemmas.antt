-- All of it.
use Rattle.relay_meeting.specs.Joined.{WhatRelaysSay}
use Rattle.relay_meeting.proofs.TriedLemmas.{each_place_is_tried}
use Rattle.relay_meeting.proofs.JoinLemmas.{two_relays_meet}
use Rattle.relay_meeting.proofs.EndLemmas.{two_relays_end}
use Rattle.relay_meeting.proofs.HoldLemmas.{offer_holds_its_places}
use Rattle.relay_meeting.proofs.ChildLemmas.{child_holds_its_places}

pub what_relays_say : WhatRelaysSay
what_relays_say setup delivery said closing input output replies rest is ends =
    let tried = each_place_is_tried setup delivery.envelope delivery.places is.envelope is.within in
    record {
      tried = tried.0;
      are_tried = tried.1;
      met = two_relays_meet setup delivery tried.0 said closing input output replies rest is tried.1 ends;
      held = λ some. offer_holds_its_places setup delivery tried.0 said closing input output replies rest is tried.1 ends some;
      child = λ some. child_holds_its_places setup delivery said closing input output replies rest is ends some;
      ended = λ verdicts each ended.
          two_relays_end setup delivery tried.0 said closing input output replies rest verdicts is tried.1 ends each ended;
    }

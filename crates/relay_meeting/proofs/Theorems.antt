-- What a crate above may cite of this one: each lemma proves a law that the crate exports.
pub use Rattle.relay_meeting.proofs.MeetLemmas.{meeting}
pub use Rattle.relay_meeting.proofs.TriedLemmas.{each_place_is_tried}
pub use Rattle.relay_meeting.proofs.ScriptLemmas.{script_is_servers}
pub use Rattle.relay_meeting.proofs.WritesLemmas.{client_writes}
pub use Rattle.relay_meeting.proofs.JoinLemmas.{two_relays_meet}
pub use Rattle.relay_meeting.proofs.EndLemmas.{two_relays_end}
pub use Rattle.relay_meeting.proofs.HoldLemmas.{offer_holds_its_places}
pub use Rattle.relay_meeting.proofs.ChildLemmas.{child_holds_its_places}
pub use Rattle.relay_meeting.proofs.WholeLemmas.{what_relays_say}

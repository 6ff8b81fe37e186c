-- What a crate above may cite of this one: each lemma proves a law that the crate exports, or restates a public clause.

-- Of dialogues.
pub use Rattle.relay_server.proofs.UnitLemmas.{no_unit_begins_another, no_unit_is_empty}
pub use Rattle.relay_server.proofs.TurnLemmas.{row_is_fixed}
pub use Rattle.relay_server.proofs.DialogueLemmas.{output_is_fixed, runs_compose, what_stands_is_a_dialogue}
pub use Rattle.relay_server.proofs.BeginningLemmas.{beginnings_have_beginnings}
pub use Rattle.relay_server.proofs.ReplyLemmas.{only_content_is_offered, only_queued_is_positive, replies_are_well_formed}
pub use Rattle.relay_server.proofs.StoredLemmas.{offers_may_be_stored}
pub use Rattle.relay_server.proofs.TakenLemmas.{recipients_are_taken}
-- Of turns.
pub use Rattle.relay_server.proofs.TurnLawLemmas.{asked_is_a_unit, chunk_is_answered, course_is_fixed, course_is_of_a_unit, line_is_answered, no_unit_lacks_a_course, text_is_answered, turn_is_of_its_unit}
-- Of sessions.
pub use Rattle.relay_server.proofs.SessionLawLemmas.{answered_is_settled, close_is_closed, closed_is_a_dialogue, content_is_within, more_is_more, none_else_is_open, offer_is_told, offer_is_within, offers_are_answered, open_is_new, open_may_be_stored, piece_goes_on}

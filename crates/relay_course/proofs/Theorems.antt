-- What a crate above may cite of this one: each lemma proves a law that the crate exports.
pub use Rattle.relay_course.proofs.GoingLemmas.{commands_stay, each_command_waits, each_reply_answers, end_is_end, reply_leads_on}
pub use Rattle.relay_course.proofs.OrderLemmas.{end_waits_for_nothing}
pub use Rattle.relay_course.proofs.EndLemmas.{answered_are_first, answers_stay, commands_keep_up, course_may_be_lost, rcpts_are_in_order, verdict_for_each_place, verdicts_may_be_stored}
pub use Rattle.relay_course.proofs.OneLemmas.{course_is_one}
pub use Rattle.relay_course.proofs.TakenLemmas.{taken_where_answered}
pub use Rattle.relay_course.proofs.SettlingLemmas.{course_settles, settled_by_its_reply}
pub use Rattle.relay_course.proofs.WrittenLemmas.{each_command_is_read}
pub use Rattle.relay_course.proofs.RelayLemmas.{all_rcpts_answered, commands_to_a_relay, nothing_before_all_rcpts}
pub use Rattle.relay_course.proofs.HopLemmas.{verdicts_are_of_a_hop}

-- What a crate above may cite of this one: each lemma proves a law that the crate exports.

-- records, and the bodies of a spool
pub use Rattle.relay_book.proofs.ChangeFieldLemmas.{encoding_is_one}
pub use Rattle.relay_book.proofs.StandLemmas.{none_stand_for_none, one_more_stands, queue_is_read, bodies_leave_one, encodings_stand, one_more_fits, one_more_read, reads_front}
pub use Rattle.relay_book.proofs.StandLemmas.{read_is_queue, snapshot_is_read, snapshot_stands}
pub use Rattle.relay_book.proofs.QueueLemmas.{found_is_queued, list_is_queue, step_is_queue}
pub use Rattle.relay_book.proofs.SnapshotLemmas.{snapshot_is_one}
pub use Rattle.relay_book.proofs.LengthLemmas.{record_is_short}
-- custody
pub use Rattle.relay_book.proofs.MarkLaws.{fold_finds, fold_holds, fold_knows, exactly_one, one_more_holds}
pub use Rattle.relay_book.proofs.LeavingLemmas.{queue_leaves, leaving_is_listed, steps_leave}
pub use Rattle.relay_book.proofs.QueuedLaws.{queued_is_held}
pub use Rattle.relay_book.proofs.StoredLemmas.{message_stays, queued_may_be_stored, report_may_be_stored}
-- reported delays
pub use Rattle.relay_book.proofs.DelayLaws.{fold_delays}
pub use Rattle.relay_book.proofs.DelayTold.{delay_is_told}
pub use Rattle.relay_book.proofs.VersionLemmas.{later_report_alike}
-- due moments
pub use Rattle.relay_book.proofs.TimeLaws.{fold_due}
pub use Rattle.relay_book.proofs.DueListLaws.{queue_lists_due, queue_tells_due}
-- outlines
pub use Rattle.relay_book.proofs.OutlineLemmas.{outline_steps, outline_fits, outline_holds, outline_finds, outline_tells}

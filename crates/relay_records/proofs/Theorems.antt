-- What a crate above may cite of this one: each lemma proves a law that the crate exports.
pub use Rattle.relay_records.proofs.ListLemmas.{next_is_one_more}
pub use Rattle.relay_records.proofs.LawLemmas.{one_list_is_kept, kept_is_opened, halted_is_opened, kept_is_not_refused, halted_is_not_refused, halted_all_is_opened, halted_all_is_not_refused}
pub use Rattle.relay_records.proofs.StagedLemmas.{awaited_are_numbered, none_awaited}

-- What a crate above may cite of this one: each lemma proves a law that the crate exports, or serves one.
pub use Rattle.relay_world.proofs.CopiesLemmas.{decided_by}
pub use Rattle.relay_world.proofs.OnceMoreLemmas.{one_row}
pub use Rattle.relay_world.proofs.LeakEventLemmas.{broken_leaks, down_leaks, down_still_leaks, dropped_leaks, ended_leaks, given_leaks, heard_leaks, lost_leaks, opened_leaks, read_leaks, reopened_leaks, started_leaks, stayed_leaks, ticked_leaks, written_leaks}

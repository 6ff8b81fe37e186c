-- What a crate above may cite of this one: each lemma serves a law of hosts in their order, or of events in theirs.
pub use Rattle.relay_events.proofs.BoundLemmas.{there_too}
pub use Rattle.relay_events.proofs.PlaceLemmas.{value_same}
pub use Rattle.relay_events.proofs.RunLemmas.{both_asking, both_happened}
pub use Rattle.relay_events.proofs.LeakLemmas.{step_leaks_nothing}

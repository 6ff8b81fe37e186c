-- What a crate above may cite of this one: each lemma proves a law that the crate exports.
pub use Rattle.relay_node.proofs.QueuedLemmas.{queued_grows}
pub use Rattle.relay_node.proofs.AttemptLemmas.{told_stays}

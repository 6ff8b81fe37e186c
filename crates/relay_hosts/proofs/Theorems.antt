-- What a crate above may cite of this one: each lemma serves a law of what a node does first.
pub use Rattle.relay_hosts.proofs.DueLemmas.{same_attempts, same_work}

-- What a crate above may cite of this one: a lemma that serves a law of runs.
pub use Rattle.relay_pair.proofs.RunLemmas.{none_asked, promise_on}

-- What a crate above may cite of this one: each lemma proves a law that the crate exports.
pub use Rattle.relay_outlines.proofs.LookLemmas.{blank_texts_hold, blank_texts_wait}

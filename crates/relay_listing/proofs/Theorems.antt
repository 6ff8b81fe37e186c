-- What a crate above may cite of this one: each lemma proves a law that the crate exports.
pub use Rattle.relay_listing.proofs.RowLemmas.{blank_texts_show}

-- What a crate above may cite.
pub use Rattle.relay_links.proofs.AcceptedLemmas.{come_on}

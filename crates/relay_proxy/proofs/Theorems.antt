-- What a crate above may cite of this one: each lemma proves a law that the crate exports.
pub use Rattle.relay_proxy.proofs.HeaderLawLemmas.{front_is_unfinished, header_is_all, header_is_bounded, header_is_finished, header_is_one, header_is_read}
pub use Rattle.relay_proxy.proofs.WrittenLemmas.{client_block_is_header, client_line_is_header}

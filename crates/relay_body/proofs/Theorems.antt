-- What a crate above may cite: each lemma proves the law of this crate that has its name.
-- dot texts
pub use Rattle.relay_body.proofs.DotTextLemmas.{content_ends_in_line_end, each_content_is_written, line_end_is_seen, no_text_begins_another, no_text_is_empty, one_content, one_text, seen_is_line_end, written_is_read}
-- bare line ends
pub use Rattle.relay_body.proofs.BareEndLemmas.{bare_end_is_seen}
-- a reader of dot texts
pub use Rattle.relay_body.proofs.DotTextLemmas.{reading_has_no_dot_text, reading_is_open}
-- chunks
pub use Rattle.relay_body.proofs.ChunkLemmas.{chunks_have_memory, cutting_says_nothing, each_reader_was_given_chunks, no_more_than_its_size, sizes_cut_once, whole_is_between, whole_is_one_more}

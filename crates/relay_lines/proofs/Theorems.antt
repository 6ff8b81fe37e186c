-- What a crate above may cite of this one: each lemma proves a law that the crate exports, or
-- restates a public clause.
pub use Rattle.relay_lines.proofs.ShownLemmas.{shown_is_printable}
pub use Rattle.relay_lines.proofs.WordLemmas.{address_literal_is_tested, host_word_is_tested, same_word}
pub use Rattle.relay_lines.proofs.SpellingLemmas.{reading_is_of_spelling}
pub use Rattle.relay_lines.proofs.ChunkArgumentLemmas.{decimal_is_chunk_size}
pub use Rattle.relay_lines.proofs.WrittenCommandLemmas.{command_has_no_crlf, written_command_is_read}
pub use Rattle.relay_lines.proofs.ReplyLawLemmas.{no_reply_begins_another, written_is_read}
pub use Rattle.relay_lines.proofs.ReplyFaultLemmas.{beginning_is_unfinished, fault_is_one, fault_stays, held_is_unfinished}
pub use Rattle.relay_lines.proofs.ReplyFaultLemmas.{reply_has_no_fault, unfinished_has_no_fault, unfinished_has_no_reply}
pub use Rattle.relay_lines.proofs.ReplyCutLemmas.{beginning_is_cut, cut_goes_on, cut_is_one, cut_stays, read_is_cut}

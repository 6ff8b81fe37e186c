-- What a crate above may cite: each lemma proves the law of this crate that has its name.
-- dates
pub use Rattle.relay_trace.proofs.DateTextLemmas.{date_text_is_one, date_text_tells_moment}
pub use Rattle.relay_trace.proofs.ShortLemmas.{date_text_has_31_octets, last_second_is_shown}
pub use Rattle.relay_trace.proofs.StampLemmas.{date_text_has_no_crlf}
-- header sections
pub use Rattle.relay_trace.proofs.LawLemmas.{header_ends_at_empty_line, header_ends_with_text, header_goes_on}
pub use Rattle.relay_trace.proofs.LinesLemmas.{lines_are_one, received_is_tested}
-- time stamp lines
pub use Rattle.relay_trace.proofs.StampLemmas.{passing_adds_one, passing_keeps_header, time_stamp_is_one, time_stamp_is_one_field}
pub use Rattle.relay_trace.proofs.ShortLemmas.{time_stamp_is_short}

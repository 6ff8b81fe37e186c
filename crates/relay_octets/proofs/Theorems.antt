-- What a crate above may cite of this one: each lemma proves a law that the crate exports, or restates a part of one.
-- `has_crlf` stands in specs/Line.antt: cite it from there.
pub use Rattle.relay_octets.proofs.LineLemmas.{first_line_is_one, first_line_stays}
pub use Rattle.relay_octets.proofs.LineLemmas.{crlf_is_tested, no_crlf_by_test, no_crlf_test}
pub use Rattle.relay_octets.proofs.LineLemmas.{no_cr_is_no_crlf, no_crlf_nil, no_crlf_one}
pub use Rattle.relay_octets.proofs.LineLemmas.{join_has_no_crlf, no_crlf_back, no_crlf_front, no_crlf_joined, no_crlf_tail}
pub use Rattle.relay_octets.specs.Line.{has_crlf}

-- What a crate above may cite of this one: each lemma proves the law of this crate that has its name.
pub use Rattle.relay_report.proofs.ReportShortLemmas.{report_is_short}
pub use Rattle.relay_report.proofs.FitLemmas.{due_report_fits}
pub use Rattle.relay_report.proofs.PlainLemmas.{told_breaks_no_line}
pub use Rattle.relay_report.proofs.LineLemmas.{report_has_short_lines, report_has_no_received}
pub use Rattle.relay_report.proofs.FreeLemmas.{boundary_is_there, boundary_is_one}
pub use Rattle.relay_report.proofs.SplitLemmas.{parts_are_one}
pub use Rattle.relay_report.proofs.ReportSplitLemmas.{report_comes_apart}

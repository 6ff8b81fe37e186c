-- the pieces make the report
use Rattle.std.proofs.Common.{◌∙◌}
use Rattle.std.specs.Option.{option_copied}
use Rattle.relay_report.specs.Report.{told_of}
use Rattle.relay_report.proofs.ReportLemmas.{is_report_by}
use Rattle.relay_report.proofs.report.report_content.Goals as goal

pub returns : goal.returns
returns c =
    is_report_by (told_of c.args.report.now) c.in_ok-date.date.items c.in_ok-arrival.arrival.items c.in_ok-until.until c.in_ok-boundary.boundary.items c.in_ok-first.first.items c.in_ok-second.second.items c.returned.result.now c.new.result c.encoding_of-encoding.result.now c.returns_whole-whole.result
    c.as_slice.result.now (option_copied c.as_octets.result) c.as_slice-2.result.now c.as_slice-3.result.now (option_copied c.as_octets-2.result) c.as_slice-4.result.now c.as_slice-5.result.now c.as_slice-6.result.now c.as_slice-7.result.now c.as_slice-8.result.now
    c.in_ok-date.ensures c.in_ok-arrival.ensures c.in_ok-until.ensures c.as_slice.ensures.value c.as_octets.ensures c.in_ok-first.ensures
    c.as_slice-2.ensures.value c.as_slice-3.ensures.value c.as_octets-2.ensures c.in_ok-second.ensures c.returns_whole-whole.ensures c.as_slice-4.ensures.value c.as_slice-5.ensures.value c.as_slice-6.ensures c.returned.ensures c.encoding_of-encoding.ensures
    c.in_ok-boundary.ensures c.as_slice-7.ensures.value c.as_slice-8.ensures.value (c.new.ensures ∙ c.in_ok-text.ensures)

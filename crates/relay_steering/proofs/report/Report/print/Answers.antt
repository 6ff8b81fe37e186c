-- The lines of the messages come first, and then the last line.
use Rattle.std.proofs.Common.{◌++◌, codes, decimal, List, ℕ, subst}
use Rattle.std.specs.Io.KnownBytes.{Appends}
use Rattle.relay_steering.specs.Report.{count_line, report_text}
use Rattle.relay_steering.proofs.ReportLemmas.{appends_both, appends_on, on_ok}
use Rattle.relay_steering.proofs.report.Report.print.Goals as goal

pub returns : goal.returns
returns g c =
    let contents = g.W.Write.contents in
    let first = c.args.writer.now in
    let lines = c.write_all.new.self in
    let last = c.writeln.new.self in
    let report = c.args.self.now in
    let rest = codes " recipients=" ++ decimal report.recipients ++ codes "\n" in
    on_ok c.flush.result (Appends (contents first) (contents c.flush.new.self) (report_text report))
    (appends_both (contents first) (contents lines) (contents c.flush.new.self) report.refused.items (count_line report.removal report.recipients)
    (subst (λ (octets : List ℕ). Appends (contents first) (contents lines) octets) c.as_slice.ensures.value c.in_ok-write_all.ensures.bytes)
    (appends_on (contents lines) (contents last) (contents c.flush.new.self) (count_line report.removal report.recipients)
    (subst (λ (word : List ℕ). Appends (contents lines) (contents last) (word ++ rest)) c.done_word-word.ensures c.in_ok-writeln.ensures.bytes)
    c.flush.ensures.bytes))

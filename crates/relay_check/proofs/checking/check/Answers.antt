-- what was found was sorted, written, and judged
use Rattle.std.proofs.Common.{not, ap, subst, ◌∙◌}
use Rattle.std.specs.Io.KnownBytes.{Appends}
use Rattle.relay_check.proofs.FindingLemmas.{either}
use Rattle.relay_check.proofs.checking.check.Goals as goal

pub returns : goal.returns
returns g c = record {
  text = c.as_str-2.result.now;
  findings = c.sort.new.self.found.items;
  written =
      subst (λ lines. Appends (g.W.Write.contents c.args.writer.now) (g.W.Write.contents c.write_out.new.writer) lines)
      (c.as_slice.ensures.value ∙ c.in_ok-lines.ensures) c.in_ok-write_out.ensures;
  passes_is = ap not c.has_error.ensures;
  configuration =
      either c.in_ok-check_text.field-0 c.as_str-2.result.now c.check_text.new.findings.found.items c.sort.new.self.found.items c.in_ok-check_text.ensures.answers
      c.in_ok-check_text.ensures.found c.sort.ensures;
}

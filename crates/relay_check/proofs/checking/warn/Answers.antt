-- what was found was sorted and written, and none of it is an error
use Rattle.std.proofs.Common.{inr, rules, subst, sym, ◌∙◌}
use Rattle.std.specs.Io.KnownBytes.{Appends}
use Rattle.std.proofs.lemmas.List.Sorted.{list_any-IsPermutation}
use Rattle.relay_check.specs.Check.{is_error}
use Rattle.relay_check.proofs.checking.warn.Goals as goal

pub returns : goal.returns
returns g c = inr (record {
  text = c.as_str-2.result.now;
  findings = c.sort.new.self.found.items;
  written =
      subst (λ lines. Appends (g.W.Write.contents c.args.writer.now) (g.W.Write.contents c.write_out.new.writer) lines)
      (c.as_slice.ensures.value ∙ c.in_ok-lines.ensures) c.in_ok-write_out.ensures;
  warnings = sym (list_any-IsPermutation is_error c.soften.new.self.found.items c.sort.new.self.found.items c.sort.ensures) ∙ sym c.if-has_error.ensures;
  configuration = c.in_ok-is_configuration.ensures.answers.0 (search rules);
})

-- No outcome is left to tell.
use Rattle.std.proofs.Common.{◌≡◌, ◌⊎◌, inl, inr, ap, ◌∙◌, ℕ, [], ◌++◌}
use Rattle.std.proofs.lemmas.List.{nil_from_length}
use Rattle.std.specs.Global.{Vec}
use Rattle.std.specs.Iterator.Adapters.{zip_first, zip_second}
use Rattle.std.specs.Slice.Iter.{iter_rest}
use Rattle.relay_steering.specs.Report.{refused_lines, withdrawn_in}
use Rattle.relay_steering.proofs.ReportLemmas.{all_counted, all_lines, no_lines, none_in}
use Rattle.relay_steering.proofs.report.Report.add_outcomes.Goals as goal

pub returns : goal.returns
returns c =
    let i = c.loop-selected.invariant in
    let firsts = iter_rest (zip_first c.loop-selected.selected-iterator) in
    let seconds = iter_rest (zip_second c.loop-selected.selected-iterator) in
    let none : (firsts ≡ []) ⊎ (seconds ≡ []) = elim c.in-None.ensures.steps [
      | inl ended ↦ inl (nil_from_length firsts ended.1.0)
      | inr ended ↦ inr (nil_from_length seconds ended.1.0)
    ] in
    record {
      removal = c.count.ensures.rest.0 ∙ i.removal;
      recipients =
          all_counted c.args.self.now.recipients c.loop-selected.self.recipients c.count.new.self.recipients c.loop-selected.recipients (withdrawn_in firsts seconds)
          (withdrawn_in c.args.messages.now c.args.outcomes.now) c.count.ensures.count i.same i.count (none_in firsts seconds none) i.fits;
      refused =
          ap (λ (refused : Vec ℕ). refused.items) c.count.ensures.rest.1
          ∙ all_lines c.loop-selected.self.refused.items (refused_lines firsts seconds) (c.args.self.now.refused.items ++ refused_lines c.args.messages.now c.args.outcomes.now) i.lines (no_lines firsts seconds none);
    }

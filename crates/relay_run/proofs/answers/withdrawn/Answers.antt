-- No line is left to come.
use Rattle.std.proofs.Common.{◌≡◌, ◌⊎◌, inl, inr, []}
use Rattle.std.proofs.lemmas.List.{nil_from_length}
use Rattle.std.specs.Iterator.Adapters.{zip_first, zip_second}
use Rattle.std.specs.Slice.Iter.{iter_rest}
use Rattle.relay_run.specs.Answers.{count_line, last_line, refused_lines, withdrawn_in}
use Rattle.relay_run.proofs.AnswerLemmas.{no_lines, none_in, whole}
use Rattle.relay_run.proofs.answers.withdrawn.Goals as goal

pub returns : goal.returns
returns c =
    let i = c.loop-named.invariant in
    let firsts = iter_rest (zip_first c.loop-named.named-iterator) in
    let seconds = iter_rest (zip_second c.loop-named.named-iterator) in
    let none : (firsts ≡ []) ⊎ (seconds ≡ []) = elim c.in-None.ensures.steps [
      | inl ended ↦ inl (nil_from_length firsts ended.1.0)
      | inr ended ↦ inr (nil_from_length seconds ended.1.0)
    ] in
    whole (count_line c.args.withdrawal) c.push_last.new.answer.items c.push_count.new.answer.items c.loop-named.answer.items (refused_lines firsts seconds)
    (refused_lines c.args.names.now c.args.outcomes.now) (last_line c.args.names.now c.args.outcomes.now) c.loop-named.recipients (withdrawn_in firsts seconds)
    (withdrawn_in c.args.names.now c.args.outcomes.now) c.in_ok-push_last.ensures c.in_ok-push_count.ensures i.lines (no_lines firsts seconds none) i.count
    (none_in firsts seconds none) i.fits

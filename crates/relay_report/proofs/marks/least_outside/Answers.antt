-- a row of more bits than there are numbers
use Rattle.std.proofs.Common.{◌≡◌, length, ◌∙◌, ap, arith}
use Rattle.relay_report.specs.Numbers.{all_begun}
use Rattle.relay_report.specs.Marks.{marked}
use Rattle.relay_report.proofs.MarkLemmas.{row_length, least_is_outside}
use Rattle.relay_report.proofs.marks.least_outside.Goals as goal

pub least_unmarked-requires : goal.least_unmarked-requires
least_unmarked-requires c =
    let size : length c.as_slice.result.now ≡ c.in-Some.count =
    row_length c.in-Some.count (all_begun c.args.numbers.now) c.as_slice.result.now
    (c.as_slice.ensures.value ∙ c.mark_all.ensures ∙ ap (λ w. marked w (all_begun c.args.numbers.now)) (c.in_ok-words-in-Some.ensures)) in
    omega (arith, c.in-Some.ensures.1)

pub returns-in_ok-words-in-Some : goal.returns-in_ok-words-in-Some
returns-in_ok-words-in-Some c =
    least_is_outside c.in-Some.count c.args.numbers.now c.as_slice.result.now c.least_unmarked.result
    (c.as_slice.ensures.value ∙ c.mark_all.ensures ∙ ap (λ w. marked w (all_begun c.args.numbers.now)) (c.in_ok-words-in-Some.ensures))
    c.in-Some.ensures.0 c.in-Some.ensures.1 c.least_unmarked.ensures

-- the number is marked, and a digit less is to come
use Rattle.std.proofs.Common.{◌≡◌, ◌∙◌, ap, sym, arith, ◌-◌, ◌+◌, ◌/◌}
use Rattle.relay_report.specs.Numbers.{beginnings}
use Rattle.relay_report.specs.Marks.{marked}
use Rattle.relay_report.proofs.BegunLemmas.{beginnings_none}
use Rattle.relay_report.proofs.MarkLemmas.{mark_next, mark_last}
use Rattle.relay_report.proofs.marks.mark_begun.Goals as goal

pub returns-then-rest-lt10 : goal.returns-then-rest-lt10
returns-then-rest-lt10 c =
    c.mark.ensures ∙ mark_last c.loop.words.items (marked c.args.words.now.items (beginnings 20 c.args.number)) (20 - c.loop.counter) c.loop.rest (omega arith) c.if-rest-lt10.true c.loop.invariant.0

pub loop-preserved : goal.loop-preserved
loop-preserved c = (
  let one_less : 20 - (c.loop.counter + 1) ≡ 20 - c.loop.counter - 1 = omega arith in
      ap (λ d. marked c.mark.new.words.items (beginnings d (c.loop.rest / 10))) one_less
      ∙ ap (λ w. marked w (beginnings (20 - c.loop.counter - 1) (c.loop.rest / 10))) c.mark.ensures
      ∙ mark_next c.loop.words.items (marked c.args.words.now.items (beginnings 20 c.args.number)) (20 - c.loop.counter) c.loop.rest (omega arith) c.if-rest-lt10.false c.loop.invariant.0,
  omega arith,
)

pub returns : goal.returns
returns c =
    let none : 20 - c.loop.counter ≡ 0 = omega arith in
    sym (ap (marked c.loop.words.items) (ap (λ d. beginnings d c.loop.rest) none ∙ beginnings_none c.loop.rest)) ∙ c.loop.invariant.0

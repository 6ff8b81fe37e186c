-- Each that has something to hear is answered by the next answer; the others are passed over.
use Rattle.std.proofs.Common.{◌≡◌, ◌≢◌, ◌<◌, ◌≤◌, [], length, List, ◌%◌, ◌+◌, ◌-◌, refl, sym, subst, ◌∙◌, arith, None, Option, Result}
use Rattle.std.specs.Vec.Iter.{into_iter_steps}
use Rattle.relay_records.specs.declared.fault.NodeFault.{NodeFault}
use Rattle.relay_loop.specs.declared.hops.Answered.{Answered}
use Rattle.relay_connections.specs.Hearing.{turned}
use Rattle.relay_connections.proofs.Theorems.{leaves_then}
use Rattle.relay_next_hops.specs.Hearing.{AnswersEach, hearing_at, order_of}
use Rattle.relay_next_hops.proofs.HearingLemmas.{all_over, hears, if_some, none_of, passes, stops}
use Rattle.relay_next_hops.proofs.LeaveLemmas.{leaves_same}
use Rattle.relay_next_hops.proofs.OrderLemmas.{first_low, round_answered}
use Rattle.relay_next_hops.proofs.SlotLemmas.{is_none}
use Rattle.relay_next_hops.proofs.hops.Hops.answer.Goals as goal

pub loop-step-preserved-in_default-hearing_at : goal.loop-step-preserved-in_default-hearing_at
loop-step-preserved-in_default-hearing_at g c = (
  λ new each.
      let tick = c.args.turn.now.now.tick in
      let none = sym c.hearing_at.ensures ∙ is_none c.hearing_at.result c.in_default-hearing_at.not-Some in
      c.loop-step.invariant.0 new (passes (length c.standing-count.result.now) c.first_of-first.result c.loop-step.step tick c.loop-step.answers.rest.items c.loop-step.self.hops new c.loop-step-test.true none each),
  c.loop-step.invariant.1,
  c.loop-step.invariant.2,
  c.loop-step.invariant.3,
)

pub returns-in_default-next-clause-heard : goal.returns-in_default-next-clause-heard
returns-in_default-next-clause-heard g c =
    let tick = c.args.turn.now.now.tick in
    let count = length c.standing-count.result.now in
    let first = c.first_of-first.result in
    let step = c.loop-step.step in
    let hops = c.loop-step.self.hops in
    let some : hearing_at hops ((first + step) % count) ≢ None = λ none. cc (sym c.in-Some-hearing_at.is ∙ c.hearing_at.ensures ∙ none) in
    let over = subst (λ (answer : Option (Result Answered NodeFault)). into_iter_steps c.loop-step.answers answer c.next.new.self) (is_none c.next.result c.in_default-next.not-Some) c.next.ensures.cases in
    let none : c.loop-step.answers.rest.items ≡ [] = none_of c.loop-step.answers.rest.items (omega (arith, over.0, c.loop-step.answers.rest.ok)) in
    let stopped = subst (λ (answers : List (Result Answered NodeFault)). AnswersEach tick (turned count (first + step) (count - step)) answers hops hops) (sym none) (stops count first step tick hops c.loop-step-test.true some) in
    let each = c.loop-step.invariant.0 hops stopped in
    let standing = c.standing-count.result.now in
    let all = round_answered c.args.self.now standing c.standing-count.ensures.slots (length standing) c.first_of-first.result refl c.standing-count.ensures.within c.first_of-first.ensures.first c.first_of-first.ensures.over tick c.into_iter-answers.result.rest.items hops each in
    if_some _ c.args.replied c.in-Some.field-0 c.in-Some.is
    (subst (λ (answers : List (Result Answered NodeFault)). AnswersEach tick (order_of c.args.self.now) answers c.args.self.now.hops hops) c.into_iter-answers.ensures.rest all)

pub loop-step-preserved : goal.loop-step-preserved
loop-step-preserved g c = (
  λ new each.
      let tick = c.args.turn.now.now.tick in
      let count = length c.standing-count.result.now in
      let first = c.first_of-first.result in
      let step = c.loop-step.step in
      let hops = c.loop-step.self.hops in
      let some : hearing_at hops ((first + step) % count) ≢ None = λ none. cc (sym c.in-Some-hearing_at.is ∙ c.hearing_at.ensures ∙ none) in
      c.loop-step.invariant.0 new
      (subst (λ (answers : List (Result Answered NodeFault)). AnswersEach tick (turned count (first + step) (count - step)) answers hops new) (sym c.in-Some-next.ensures.items)
      (hears count first step tick c.in-Some-next.answer c.next.new.self.rest.items hops c.answer_one.new.self.hops new c.loop-step-test.true some c.in_ok-closed.ensures.heard each)),
  λ match_is. c.in_ok-closed.ensures.counts (c.loop-step.invariant.1 match_is),
  λ routes aimed. c.answer_one.ensures.aimed routes (c.loop-step.invariant.2 routes aimed),
  leaves_then g.D.Disk.honest g.D.Disk.words c.args.relay.now c.loop-step.relay c.answer_one.new.relay c.loop-step.invariant.3 c.in_ok-closed.ensures.leaves,
)

pub returns-clause-heard : goal.returns-clause-heard
returns-clause-heard g c =
    let tick = c.args.turn.now.now.tick in
    let hops = c.loop-step.self.hops in
    let each = c.loop-step.invariant.0 hops (all_over tick (length c.standing-count.result.now) c.first_of-first.result c.loop-step.step c.loop-step.answers.rest.items hops (omega (arith, c.loop-step-test.false))) in
    let standing = c.standing-count.result.now in
    let all = round_answered c.args.self.now standing c.standing-count.ensures.slots (length standing) c.first_of-first.result refl c.standing-count.ensures.within c.first_of-first.ensures.first c.first_of-first.ensures.over tick c.into_iter-answers.result.rest.items hops each in
    if_some _ c.args.replied c.in-Some.field-0 c.in-Some.is
    (subst (λ (answers : List (Result Answered NodeFault)). AnswersEach tick (order_of c.args.self.now) answers c.args.self.now.hops hops) c.into_iter-answers.ensures.rest all)

-- 64 stand at most, so the sum is small
pub overflow_add-number : goal.overflow_add-number
overflow_add-number g c =
    let within : length c.standing-count.result.now ≤ 64 = c.standing-count.ensures.within in
    let some : 0 < length c.standing-count.result.now = omega (arith, c.loop-step-test.true) in
    let low = first_low c.args.self.now.first (length c.standing-count.result.now) c.first_of-first.result c.first_of-first.ensures.first c.first_of-first.ensures.over some in
    omega (arith, low, within, c.loop-step-test.true)

pub loop-step-init : goal.loop-step-init
loop-step-init g c = (λ new each. each, λ match_is. match_is, λ routes aimed. aimed, leaves_same g.D.Disk.honest g.D.Disk.words c.args.relay.now)

pub returns-in_default-next-clause-leaves : goal.returns-in_default-next-clause-leaves
returns-in_default-next-clause-leaves g c = c.loop-step.invariant.3

pub returns-clause-leaves : goal.returns-clause-leaves
returns-clause-leaves g c = c.loop-step.invariant.3

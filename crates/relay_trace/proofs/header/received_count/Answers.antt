use Rattle.std.proofs.Common.{◌≡◌, ◌+◌, cond, drop, true, false, ap, sym, ◌∙◌, subst, add-zero}
use Rattle.std.proofs.lemmas.List.{take_rest}
use Rattle.relay_trace.proofs.HeaderSteps.{CountsSoFar, counts_line, counts_empty, counts_last}
use Rattle.relay_trace.proofs.header.received_count.Goals as goal
use Rattle.relay_trace.proofs.header.received_count.Goals.{then-is_received, else-is_received}

pub returns-then-place-eq0 : goal.returns-then-place-eq0
returns-then-place-eq0 c =
    counts_empty c.args.text.now c.loop-place.rest.now c.loop-place.count c.in-Some.place c.loop-place.invariant c.if-place-eq0.true c.in-Some.ensures.first

pub loop-place-preserved : goal.loop-place-preserved
loop-place-preserved c =
    let before = c.loop-place.count in
    let step = counts_line c.args.text.now c.loop-place.rest.now before c.in-Some.place c.is_received.result c.loop-place.invariant c.if-place-eq0.false c.in-Some.ensures.within c.in-Some.ensures.first c.is_received.ensures in
    let count : before + cond c.is_received.result 1 0 ≡ c.if-is_received.count =
    elim c.if-is_received.branch [
      | then-is_received w ↦ ap (λ b. before + cond b 1 0) w.if-is_received.true ∙ sym w.count-is
      | else-is_received w ↦ ap (λ b. before + cond b 1 0) w.if-is_received.false ∙ add-zero before ∙ sym w.count-is
    ] in
    rw take_rest (subst (CountsSoFar c.args.text.now (drop (c.in-Some.place + 2) c.loop-place.rest.now)) count step)

pub returns-then-is_received-2 : goal.returns-then-is_received-2
returns-then-is_received-2 c =
    counts_last c.args.text.now c.loop-place.rest.now c.loop-place.count true c.loop-place.invariant c.in_default.ensures.first c.if-is_received-2.ensures

pub returns-else-is_received-2 : goal.returns-else-is_received-2
returns-else-is_received-2 c =
    sym (add-zero c.loop-place.count) ∙ counts_last c.args.text.now c.loop-place.rest.now c.loop-place.count false c.loop-place.invariant c.in_default.ensures.first c.if-is_received-2.ensures

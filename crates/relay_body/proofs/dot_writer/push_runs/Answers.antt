use Rattle.std.proofs.Common.{◌++◌, ◌∷◌, [], take, sym, ap, ◌∙◌, arith}
use Rattle.std.proofs.lemmas.List.{append-nil, length-drop, take_rest}
use Rattle.relay_body.specs.DotText.{end_of_data}
use Rattle.relay_body.specs.DotSteps.{period_for}
use Rattle.relay_body.proofs.RunLemmas.{begins_sending, sends_last, sends_next, stays_in_front}
use Rattle.relay_body.proofs.dot_writer.push_runs.Goals as goal

pub loop-end-init : goal.loop-end-init
loop-end-init c =
    begins_sending c.args.content.now c.args.out.now.items c.push_period.new.out.items c.requires
    (c.in_ok-push_period.ensures.ok ∙ ap (λ l. l ++ period_for c.args.content.now) c.reserve.ensures.items)

pub returns-in_err-extend_from_slice-clause-front :
    goal.returns-in_err-extend_from_slice-clause-front
returns-in_err-extend_from_slice-clause-front c =
    stays_in_front c.args.content.now c.args.out.now.items c.loop-end.out.items c.loop-end.rest.now [] c.extend_from_slice.new.self.items c.loop-end.invariant
    (c.in_err-extend_from_slice.ensures.items ∙ sym (append-nil c.loop-end.out.items))

pub returns-in_err-push-clause-front : goal.returns-in_err-push-clause-front
returns-in_err-push-clause-front c =
    stays_in_front c.args.content.now c.args.out.now.items c.loop-end.out.items c.loop-end.rest.now
    (take c.in-Some.end c.loop-end.rest.now) c.push.new.self.items c.loop-end.invariant
    (c.in_err-push.ensures.items ∙ c.in_ok-extend_from_slice.ensures.items)

pub loop-end-smaller : goal.loop-end-smaller
loop-end-smaller c =
    let run = c.in-Some.ensures.ends in
    let some = run.some in
    let within = run.within in
    rw take_rest (omega (arith, length-drop c.in-Some.end c.loop-end.rest.now))

pub loop-end-preserved : goal.loop-end-preserved
loop-end-preserved c =
    rw take_rest
    (sends_next c.args.content.now c.args.out.now.items c.loop-end.out.items c.loop-end.rest.now c.push.new.self.items c.in-Some.end c.loop-end.invariant c.in-Some.ensures.ends (c.in_ok-push.ensures.items ∙ ap (λ l. l ++ 46 ∷ []) c.in_ok-extend_from_slice.ensures.items))

pub returns-in_err-extend_from_slice-2-clause-front :
    goal.returns-in_err-extend_from_slice-2-clause-front
returns-in_err-extend_from_slice-2-clause-front c =
    stays_in_front c.args.content.now c.args.out.now.items c.loop-end.out.items c.loop-end.rest.now [] c.extend_from_slice-2.new.self.items c.loop-end.invariant
    (c.in_err-extend_from_slice-2.ensures.items ∙ sym (append-nil c.loop-end.out.items))

pub returns-clause-ok : goal.returns-clause-ok
returns-clause-ok c =
    sends_last c.args.content.now c.args.out.now.items c.loop-end.out.items c.loop-end.rest.now c.extend_from_slice-3.new.self.items c.loop-end.invariant c.in_default.ensures.ends
    (c.in_ok-extend_from_slice-3.ensures.items ∙ ap (λ l. l ++ end_of_data) c.in_ok-extend_from_slice-2.ensures.items)

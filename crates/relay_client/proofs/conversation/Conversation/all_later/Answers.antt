use Rattle.std.proofs.Common.{ℕ, List, length, ◌++◌, ◌∷◌, [], ap, ◌∙◌, arith}
use Rattle.std.proofs.lemmas.List.{take_all}
use Rattle.std.proofs.lemmas.Result.{IfOk-from_err}
use Rattle.relay_book.specs.declared.change.Verdict.{Verdict}
use Rattle.relay_book.specs.declared.change.Verdict.TheVariants.{Later}
use Rattle.relay_course.specs.VerdictTable.{all_later}
use Rattle.relay_client.proofs.SettledLemmas.{later_more}
use Rattle.relay_client.proofs.conversation.Conversation.all_later.Goals as goal

pub loop-init : goal.loop-init
loop-init c = c.in_ok-verdicts.ensures

pub returns-in_err-verdicts : goal.returns-in_err-verdicts
returns-in_err-verdicts c = IfOk-from_err c.from_residual.result _ c.from_residual.ensures.0

pub returns-in_err-push : goal.returns-in_err-push
returns-in_err-push c = IfOk-from_err c.from_residual-in_err-push.result _ c.from_residual-in_err-push.ensures.0

pub loop-preserved : goal.loop-preserved
loop-preserved c =
    let places = c.args.self.now.places.items in
    let long = ap (λ (items : List ℕ). length items) c.as_slice-items.ensures.value in
    let test = c.loop-test.true in
    c.in_ok-push.ensures ∙ ap (λ (verdicts : List Verdict). verdicts ++ Later ∷ []) c.loop.invariant
    ∙ later_more places c.loop.index (omega (arith, long, test))

pub returns : goal.returns
returns c =
    let places = c.args.self.now.places.items in
    let long = ap (λ (items : List ℕ). length items) c.as_slice-items.ensures.value in
    let test = c.loop-test.false in
    c.loop.invariant ∙ ap all_later (take_all c.loop.index places (omega (arith, long, test)))

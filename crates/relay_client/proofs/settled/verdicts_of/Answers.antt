use Rattle.std.proofs.Common.{◌+◌, ℕ, List, [], ◌∷◌, ◌++◌, drop, sym, ap, ◌∙◌, arith}
use Rattle.std.proofs.lemmas.List.{append-nil, drop_all}
use Rattle.std.proofs.lemmas.Result.{IfOk-from_err}
use Rattle.relay_book.specs.declared.change.Verdict.{Verdict}
use Rattle.relay_client.specs.Conversation.{verdicts_from}
use Rattle.relay_client.specs.Settled.{settled_of}
use Rattle.relay_client.proofs.SettledLemmas.{verdicts_step}
use Rattle.relay_client.proofs.settled.verdicts_of.Goals as goal

pub loop-index-init : goal.loop-index-init
loop-index-init c =
    ap (λ (verdicts : List Verdict). verdicts
    ++ verdicts_from c.args.places.now (settled_of c.args.said.now c.args.texts.now) c.args.last.now) c.in_ok-verdicts.ensures

pub loop-index-preserved : goal.loop-index-preserved
loop-index-preserved c =
    let places = c.args.places.now in
    let said = c.args.said.now in
    let last = c.args.last.now in
    let index = c.loop-index.index in
    let texts = c.loop-index.texts.now in
    let whole = verdicts_from places (settled_of said c.args.texts.now) last in
    ap (λ (verdicts : List Verdict). verdicts
    ++ verdicts_from (drop (index + 1) places) (settled_of (drop (index + 1) said) c.after_text-texts.result.now) last)
    c.in_ok-push.ensures
    ∙ ap (λ (more : List ℕ). (c.loop-index.verdicts ++ c.in_ok-verdict_by.field-0 ∷ [])
    ++ verdicts_from (drop (index + 1) places) (settled_of (drop (index + 1) said) more) last) c.after_text-texts.ensures
    ∙ verdicts_step c.loop-index.verdicts c.in_ok-verdict_by.field-0 places said texts c.said_at-one.result last whole index
    c.loop-index-test.true c.said_at-one.ensures c.in_ok-verdict_by.ensures c.loop-index.invariant

pub returns : goal.returns
returns c =
    let places = c.args.places.now in
    let index = c.loop-index.index in
    let rest = settled_of (drop index c.args.said.now) c.loop-index.texts.now in
    let test = c.loop-index-test.false in
    sym (append-nil c.loop-index.verdicts)
    ∙ sym (ap (λ (left : List ℕ). c.loop-index.verdicts ++ verdicts_from left rest c.args.last.now)
    (drop_all index places (omega (arith, test)))) ∙ c.loop-index.invariant

pub returns-in_err-verdicts : goal.returns-in_err-verdicts
returns-in_err-verdicts c = IfOk-from_err c.from_residual.result _ c.from_residual.ensures.0

pub returns-in_err-verdict_by : goal.returns-in_err-verdict_by
returns-in_err-verdict_by c =
    IfOk-from_err c.from_residual-in_err-verdict_by.result _ c.from_residual-in_err-verdict_by.ensures.0

pub returns-in_err-push : goal.returns-in_err-push
returns-in_err-push c = IfOk-from_err c.from_residual-in_err-push.result _ c.from_residual-in_err-push.ensures.0

use Rattle.std.proofs.Common.{◌∙◌, length, refl, sym, ap}
use Rattle.std.proofs.lemmas.Result.{IfOk-from_err}
use Rattle.relay_client.specs.Settled.{text_sizes}
use Rattle.relay_client.proofs.SettledLemmas.{rejected_fits, rejected_is}
use Rattle.relay_client.proofs.settled.Settled.reject.Goals as goal

pub invariant_of-self-2 : goal.invariant_of-self-2
invariant_of-self-2 c =
    rejected_fits c.self.inside.said.items c.reserve.new.self.items c.push.new.self.items c.self.inside.texts.items
    c.as_slice-text.result.now c.extend_from_slice.new.self.items c.code.result (length c.as_slice-text.result.now)
    c.self.invariant
    c.in_ok-reserve.ensures.items c.in_ok-push.ensures.items c.in_ok-extend_from_slice.ensures.items refl

pub returns : goal.returns
returns c =
    rejected_is c.self.inside.said.items c.reserve.new.self.items c.push.new.self.items c.self.inside.texts.items
    c.as_slice-text.result.now c.extend_from_slice.new.self.items c.code.result (length c.as_slice-text.result.now)
    c.args.reply.now
    c.args.self.now c.self.invariant c.in_ok-reserve.ensures.items c.in_ok-push.ensures.items
    c.in_ok-extend_from_slice.ensures.items refl c.self.view_is c.code.ensures.value
    (c.as_slice-text.ensures.value ∙ c.in_ok-kept.ensures.shown)

pub invariant_of-self : goal.invariant_of-self
invariant_of-self c = c.self.invariant ∙ ap text_sizes (sym c.in_err-reserve.ensures.items)

pub returns-in_err-kept : goal.returns-in_err-kept
returns-in_err-kept c = IfOk-from_err c.from_residual.result _ c.from_residual.ensures.0

pub returns-in_err-reserve : goal.returns-in_err-reserve
returns-in_err-reserve c = IfOk-from_err c.from_residual-in_err-reserve.result _ c.from_residual-in_err-reserve.ensures.0

pub returns-in_err-extend_from_slice : goal.returns-in_err-extend_from_slice
returns-in_err-extend_from_slice c =
    IfOk-from_err c.from_residual-in_err-extend_from_slice.result _ c.from_residual-in_err-extend_from_slice.ensures.0

pub returns-in_err-push : goal.returns-in_err-push
returns-in_err-push c = IfOk-from_err c.from_residual-in_err-push.result _ c.from_residual-in_err-push.ensures.0

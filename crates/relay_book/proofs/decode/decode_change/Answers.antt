use Rattle.std.proofs.Common.{◌≡◌, ◌∷◌, rules}
use Rattle.relay_book.proofs.BeginLemmas.{may_be_accept}
use Rattle.relay_book.proofs.ChangeFieldLemmas.{no_accept, no_octet}
use Rattle.relay_book.proofs.FaultLemmas.{fault_passed}
use Rattle.relay_book.proofs.decode.decode_change.Goals as goal

pub returns-in_default-clause-bad : goal.returns-in_default-clause-bad
returns-in_default-clause-bad c = λ _. no_octet c.args.text.now c.in_default.ensures.cases

pub returns-in_err-accept-in-1-clause-bad : goal.returns-in_err-accept-in-1-clause-bad
returns-in_err-accept-in-1-clause-bad c =
    let is : c.args.text.now ≡ 1 ∷ c.in-Some.fields.now = search rules in
    λ bad. no_accept c.args.text.now c.in-Some.fields.now is
    (c.in_err-accept-in-1.ensures.bad (fault_passed c.from_residual.result _ _ c.from_residual.ensures.1 bad))

pub returns-in_err-accept-in-1-clause-memory : goal.returns-in_err-accept-in-1-clause-memory
returns-in_err-accept-in-1-clause-memory c =
    let is : c.args.text.now ≡ 1 ∷ c.in-Some.fields.now = search rules in
    λ bad. may_be_accept c.args.text.now c.in-Some.fields.now is
    (c.in_err-accept-in-1.ensures.memory (fault_passed c.from_residual.result _ _ c.from_residual.ensures.1 bad))

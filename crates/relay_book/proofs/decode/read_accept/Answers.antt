use Rattle.std.proofs.Common.{◌≡◌, drop, ◌∙◌, arith, length-drop}
use Rattle.std.proofs.lemmas.List.{take_all}
use Rattle.relay_book.proofs.AcceptLemmas.{begun_is_accept, begun_is_text}
use Rattle.relay_book.proofs.BeginLemmas.{begun_with_mail}
use Rattle.relay_book.proofs.FaultLemmas.{fault_passed, no_memory}
use Rattle.relay_book.proofs.decode.read_accept.Goals as goal

pub returns-in_err-at-clause-bad : goal.returns-in_err-at-clause-bad
returns-in_err-at-clause-bad c = λ bad. c.in_err-at.ensures.bad (fault_passed c.from_residual.result _ _ c.from_residual.ensures.1 bad)

pub returns-in_err-at-clause-memory : goal.returns-in_err-at-clause-memory
returns-in_err-at-clause-memory c = λ bad. c.in_err-at.ensures.memory (fault_passed c.from_residual.result _ _ c.from_residual.ensures.1 bad)

pub returns-in_err-from_slice-clause-bad : goal.returns-in_err-from_slice-clause-bad
returns-in_err-from_slice-clause-bad c = no_memory c.from_residual-in_err-from_slice.result c.from_residual-in_err-from_slice.ensures.1

pub returns-in_err-from_slice-clause-memory : goal.returns-in_err-from_slice-clause-memory
returns-in_err-from_slice-clause-memory c = λ _. begun_with_mail c.args.text.now c.in_ok-at.at c.in_ok-at.envelope c.in_ok-at.head c.in_ok-at.ensures.accept

pub returns-clause-accept : goal.returns-clause-accept
returns-clause-accept c =
    let is : c.in_ok-from_slice.field-0 ≡ drop c.in_ok-at.head c.args.text.now =
    c.in_ok-from_slice.ensures ∙ take_all _ (drop c.in_ok-at.head c.args.text.now) (simp length-drop (omega arith)) in (
      begun_is_accept c.args.text.now c.in_ok-at.at c.in_ok-at.envelope c.in_ok-at.head _ c.in_ok-at.ensures.accept is,
      begun_is_text c.args.text.now c.in_ok-at.at c.in_ok-at.envelope c.in_ok-at.head _ c.in_ok-at.ensures.accept is,
    )

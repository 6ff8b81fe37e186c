use Rattle.relay_book.proofs.FaultLemmas.{fault_passed}
use Rattle.relay_book.proofs.book.Book.apply_decoded.Goals as goal

pub returns-in_err-ready-clause-bad : goal.returns-in_err-ready-clause-bad
returns-in_err-ready-clause-bad c = λ bad. c.in_err-ready.ensures.bad (fault_passed c.from_residual.result _ _ c.from_residual.ensures.1 bad)

pub returns-in_err-ready-clause-memory : goal.returns-in_err-ready-clause-memory
returns-in_err-ready-clause-memory c = λ bad. c.in_err-ready.ensures.memory (fault_passed c.from_residual.result _ _ c.from_residual.ensures.1 bad)

use Rattle.std.proofs.Common.{subst}
use Rattle.relay_book.specs.Fields.{MayBeRecord}
use Rattle.relay_book.specs.Record.{IsNoRecord}
use Rattle.relay_book.proofs.FaultLemmas.{fault_passed}
use Rattle.relay_book.proofs.decode.decode_record.Goals as goal

pub returns-in_err-at-clause-bad : goal.returns-in_err-at-clause-bad
returns-in_err-at-clause-bad c =
    λ bad. subst IsNoRecord c.as_slice.ensures.value (c.in_err-at.ensures.bad (fault_passed c.from_residual.result _ _ c.from_residual.ensures.1 bad))

pub returns-in_err-at-clause-memory : goal.returns-in_err-at-clause-memory
returns-in_err-at-clause-memory c =
    λ bad. subst MayBeRecord c.as_slice.ensures.value (c.in_err-at.ensures.memory (fault_passed c.from_residual.result _ _ c.from_residual.ensures.1 bad))

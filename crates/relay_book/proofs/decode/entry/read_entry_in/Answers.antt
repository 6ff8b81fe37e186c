use Rattle.relay_book.proofs.EntryFieldLemmas.{none_in}
use Rattle.relay_book.proofs.FaultLemmas.{fault_passed}
use Rattle.relay_book.proofs.decode.entry.read_entry_in.Goals as goal

pub returns-in_err-message-clause-bad : goal.returns-in_err-message-clause-bad
returns-in_err-message-clause-bad c =
    λ bad. none_in c.args.version c.args.text.now c.args.least c.args.next (c.in_err-message.ensures.bad (fault_passed c.from_residual.result _ _ c.from_residual.ensures.1 bad))

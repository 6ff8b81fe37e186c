use Rattle.std.proofs.Common.{◌≡◌, rules, subst}
use Rattle.relay_book.specs.Fields.{HasNone}
use Rattle.relay_book.specs.Snapshot.{entry_octets}
use Rattle.relay_book.specs.SnapshotFields.{IsQueuedIn}
use Rattle.relay_book.proofs.FaultLemmas.{fault_passed}
use Rattle.relay_book.proofs.decode.entry.read_front.Goals as goal

pub returns-in_err-message-clause-bad : goal.returns-in_err-message-clause-bad
returns-in_err-message-clause-bad c =
    let same : c.front-front.result.now ≡ c.args.text.now.front = search rules in
    λ bad. subst (HasNone (IsQueuedIn c.args.version c.args.least c.args.next) (entry_octets c.args.version)) same
    (c.in_err-message.ensures.bad (fault_passed c.from_residual.result _ _ c.from_residual.ensures.1 bad))

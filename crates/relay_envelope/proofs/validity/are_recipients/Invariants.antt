-- All may be stored exactly where those that are left may.
use Rattle.std.proofs.Common.{◌↔◌, drop}
use Rattle.std.specs.List.{AllByRecursion}
use Rattle.relay_envelope.specs.Envelope.{IsRecipient}
use Rattle.relay_envelope.proofs.validity.are_recipients.Given as goal

abbrev pub invariant-loop-recipient : goal.invariant-loop-recipient
invariant-loop-recipient l =
    AllByRecursion IsRecipient l.recipients ↔ AllByRecursion IsRecipient (drop l.recipient-index l.recipients)

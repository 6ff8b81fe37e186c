-- what is written, and what is to come
use Rattle.std.proofs.Common.{◌≡◌, ◌++◌, drop}
use Rattle.std.specs.List.{flat_map}
use Rattle.relay_book.specs.Record.{recipient_octets}
use Rattle.relay_book.proofs.encode.push_recipients.Given as goal

abbrev pub invariant-loop-recipient : goal.invariant-loop-recipient
invariant-loop-recipient l =
    l.out.items ++ flat_map recipient_octets (drop l.recipient-index l.recipients) ≡ l.initial.out.items ++ flat_map recipient_octets l.recipients

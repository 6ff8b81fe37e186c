-- the values so far are valid, and the text is theirs and the rest
use Rattle.std.proofs.Common.{◌≡◌, ◌++◌}
use Rattle.std.specs.List.{flat_map}
use Rattle.relay_envelope.specs.Envelope.{IsRecipient}
use Rattle.relay_book.specs.Record.{recipient_octets}
use Rattle.relay_book.specs.Fields.{HaveCount}
use Rattle.relay_book.proofs.decode.recipient.read_row.Given as goal

abbrev pub invariant-loop-index : goal.invariant-loop-index
invariant-loop-index l = HaveCount IsRecipient l.index l.recipients × (l.text ≡ flat_map recipient_octets l.recipients ++ l.rest)

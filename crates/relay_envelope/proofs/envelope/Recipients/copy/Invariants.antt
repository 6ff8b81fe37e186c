-- the recipients so far are copied
use Rattle.std.proofs.Common.{◌≡◌, take}
use Rattle.relay_envelope.proofs.envelope.Recipients.copy.Given as goal

abbrev pub invariant-loop-recipient : goal.invariant-loop-recipient
invariant-loop-recipient l = l.copy ≡ take l.recipient-index l.self

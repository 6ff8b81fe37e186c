-- the recipients so far are the same
use Rattle.std.specs.Prelude.{◌≡◌, length, take}
use Rattle.relay_hub.proofs.same.are_same_recipients.Given as goal

abbrev pub invariant-loop-at : goal.invariant-loop-at
invariant-loop-at l = (length l.one ≡ length l.other) × (take l.at l.one ≡ take l.at l.other)

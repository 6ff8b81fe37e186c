-- the passes so far, and the share of the others
use Rattle.std.proofs.Common.{◌≡◌, ◌+◌}
use Rattle.relay_hub.specs.Receipts.{AreNew}
use Rattle.relay_hub.proofs.hub.passes_of.Given as goal

abbrev pub invariant-loop-i : goal.invariant-loop-i
invariant-loop-i g l = (l.share.parts + l._i ≡ l.threads) × (l.share.amount ≡ 0) × AreNew l._i l.passes.items

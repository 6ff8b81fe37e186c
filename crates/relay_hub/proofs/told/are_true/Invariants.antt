-- the others are true exactly where all are
use Rattle.std.specs.Prelude.{◌↔◌, drop}
use Rattle.relay_hub.specs.Receipts.{AreTrueOf}
use Rattle.relay_hub.proofs.told.are_true.Given as goal

abbrev pub invariant-loop-receipt : goal.invariant-loop-receipt
invariant-loop-receipt g l =
    AreTrueOf l.node.records.queue l.receipts ↔ AreTrueOf l.node.records.queue (drop l.receipt-index l.receipts)

-- the others rise from here on exactly where all do
use Rattle.std.specs.Prelude.{◌↔◌, drop}
use Rattle.relay_hub.specs.Receipts.{Rise}
use Rattle.relay_hub.proofs.told.rise.Given as goal

abbrev pub invariant-loop-receipt : goal.invariant-loop-receipt
invariant-loop-receipt l = Rise l.fn.least l.bound l.receipts ↔ Rise l.least l.bound (drop l.receipt-index l.receipts)

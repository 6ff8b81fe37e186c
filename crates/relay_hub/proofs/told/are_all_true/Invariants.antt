-- the others are true exactly where all are
use Rattle.std.specs.Prelude.{◌↔◌, drop}
use Rattle.std.specs.List.{AllByRecursion}
use Rattle.relay_hub.specs.Receipts.{AreTrueOf}
use Rattle.relay_hub.proofs.told.are_all_true.Given as goal

abbrev pub invariant-loop-pass : goal.invariant-loop-pass
invariant-loop-pass g l =
    AllByRecursion (λ receipts. AreTrueOf l.node.records.queue receipts) l.passes
    ↔ AllByRecursion (λ receipts. AreTrueOf l.node.records.queue receipts) (drop l.pass-index l.passes)

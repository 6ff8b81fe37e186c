-- the others rise exactly where all do
use Rattle.std.specs.Prelude.{◌↔◌, drop}
use Rattle.std.specs.List.{AllByRecursion}
use Rattle.relay_hub.specs.Receipts.{Rise}
use Rattle.relay_hub.proofs.told.each_rises.Given as goal

abbrev pub invariant-loop-pass : goal.invariant-loop-pass
invariant-loop-pass g l =
    AllByRecursion (λ receipts. Rise l.least l.bound receipts) l.passes
    ↔ AllByRecursion (λ receipts. Rise l.least l.bound receipts) (drop l.pass-index l.passes)

use Rattle.std.proofs.Common.{◌≡◌, ◌≤◌, length, take}
use Rattle.relay_world.specs.Ledger.{accepts_on}
use Rattle.relay_pair.proofs.copies.accepts_on.Given as goal

-- the accepts so far
abbrev pub invariant-loop-line : goal.invariant-loop-line
invariant-loop-line l = record {
  count_is : l.count ≡ length (accepts_on l.link (take l.line-index l.ledger));
  few : l.count ≤ l.line-index;
}

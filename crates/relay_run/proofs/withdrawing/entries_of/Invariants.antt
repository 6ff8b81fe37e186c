-- the messages so far have entries
use Rattle.std.proofs.Common.{◌≡◌, length}
use Rattle.relay_run.proofs.withdrawing.entries_of.Given as goal

abbrev pub invariant-loop-named : goal.invariant-loop-named
invariant-loop-named g l = length l.entries.items ≡ l.named-index

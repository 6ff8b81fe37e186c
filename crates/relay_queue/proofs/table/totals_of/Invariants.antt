-- the sums of the recipients so far
use Rattle.std.proofs.Common.{drop}
use Rattle.relay_queue.proofs.TotalLemmas.{AreSoFar}
use Rattle.relay_queue.proofs.table.totals_of.Given as goal

abbrev pub invariant-loop-key : goal.invariant-loop-key
invariant-loop-key l = AreSoFar l.look.queue l.keys (drop l.key-index l.keys) l.sums

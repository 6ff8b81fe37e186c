-- the cursor passed some bodies
use Rattle.std.proofs.Common.{◌-◌}
use Rattle.relay_outlines.proofs.CursorLemmas.{Passing}
use Rattle.relay_outlines.proofs.reading.read_rest.Given as goal

abbrev pub invariant-loop-body : goal.invariant-loop-body
invariant-loop-body g l = Passing g.D.Disk.honest g.D.Disk.words l.fn.cursor l.cursor

abbrev pub decreases-loop-body : goal.decreases-loop-body
decreases-loop-body g l = l.cursor.size - l.cursor.place

-- blocks of the body were read
use Rattle.relay_outlines.proofs.BlockLemmas.{Blocks}
use Rattle.relay_outlines.proofs.first.read_blocks.Given as goal

abbrev pub invariant-loop-left : goal.invariant-loop-left
invariant-loop-left g l = Blocks g.D.Disk.honest g.D.Disk.words l.fn.cursor l.cursor l.count l.left l.first

abbrev pub decreases-loop-left : goal.decreases-loop-left
decreases-loop-left g l = l.left

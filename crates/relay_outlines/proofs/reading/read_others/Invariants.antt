-- the bodies so far were read into an outline
use Rattle.std.proofs.Common.{◌-◌}
use Rattle.relay_outlines.proofs.CursorLemmas.{Outlining}
use Rattle.relay_outlines.proofs.reading.read_others.Given as goal

abbrev pub invariant-loop-book : goal.invariant-loop-book
invariant-loop-book g l = Outlining g.D.Disk.honest g.D.Disk.words l.fn.cursor l.cursor l.before l.book.queue

abbrev pub decreases-loop-book : goal.decreases-loop-book
decreases-loop-book g l = l.cursor.size - l.cursor.place

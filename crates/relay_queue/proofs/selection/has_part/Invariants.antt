-- the rest of the text has the part, if the text has it
use Rattle.std.proofs.Common.{◌≡◌, length}
use Rattle.relay_queue.specs.Selection.{has_part}
use Rattle.relay_queue.proofs.selection.has_part.Given as goal

abbrev pub invariant-loop-part : goal.invariant-loop-part
invariant-loop-part l = has_part l.word l.text ≡ has_part l.word l.rest

abbrev pub decreases-loop-part : goal.decreases-loop-part
decreases-loop-part l = length l.rest

-- what was read and shown so far, and what is left
use Rattle.std.proofs.Common.{length}
use Rattle.relay_queue.proofs.TextLemmas.{IsShownSoFar}
use Rattle.relay_queue.proofs.screen.Screen.push_text.Given as goal

abbrev pub invariant-loop-place : goal.invariant-loop-place
invariant-loop-place l = IsShownSoFar l.fn.text l.rest l.fn.self l.self

abbrev pub decreases-loop-place : goal.decreases-loop-place
decreases-loop-place l = length l.rest

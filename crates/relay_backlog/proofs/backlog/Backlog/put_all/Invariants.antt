use Rattle.std.proofs.Common.{◌≡◌, length}
use Rattle.relay_backlog.specs.Waiting.{lines_of, with_lines}
use Rattle.relay_backlog.proofs.backlog.Backlog.put_all.Given as goal

-- The lines that are left come to what all came to.
abbrev pub invariant-loop-rest : goal.invariant-loop-rest
invariant-loop-rest l = with_lines l.self (lines_of l.rest) ≡ with_lines l.initial.self (lines_of l.lines)

abbrev pub decreases-loop-rest : goal.decreases-loop-rest
decreases-loop-rest l = length l.rest

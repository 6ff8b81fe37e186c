use Rattle.std.proofs.Common.{◌≡◌, ◌+◌, drop}
use Rattle.relay_hosts.specs.Room.{lines_to_come}
use Rattle.relay_hosts.proofs.lines.lines_to_come.Given as goal

-- the lines of the attempts so far, and those of the others
abbrev pub invariant-loop-place : goal.invariant-loop-place
invariant-loop-place l = l.lines + lines_to_come (drop l.place l.attempts) ≡ lines_to_come l.attempts

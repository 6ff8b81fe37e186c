use Rattle.std.proofs.Common.{◌≡◌, ◌++◌, map, take, drop}
use Rattle.relay_world.specs.HangUp.{hung_up_attempt}
use Rattle.relay_hosts.proofs.let_go.hang_up_attempts.Given as goal

-- those so far have hung up, and the others are as they were
abbrev pub invariant-loop-place : goal.invariant-loop-place
invariant-loop-place l = l.attempts ≡ map (hung_up_attempt l.node) (take l.place l.fn.attempts) ++ drop l.place l.fn.attempts

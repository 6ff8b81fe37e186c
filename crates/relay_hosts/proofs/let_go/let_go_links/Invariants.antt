use Rattle.std.proofs.Common.{◌≡◌, ◌++◌, map, take, drop}
use Rattle.relay_world.specs.Crashes.{let_go_link}
use Rattle.relay_hosts.proofs.let_go.let_go_links.Given as goal

-- those so far were let go, and the others are as they were
abbrev pub invariant-loop-place : goal.invariant-loop-place
invariant-loop-place l =
    l.links ≡ map (let_go_link l.node l.attempts) (take l.place l.fn.links) ++ drop l.place l.fn.links

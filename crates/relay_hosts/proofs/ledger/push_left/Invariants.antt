use Rattle.std.proofs.Common.{◌≡◌, ◌+◌, ◌≤◌, ◌++◌, take}
use Rattle.std.specs.Prelude.{vec_capacity, vec_len}
use Rattle.relay_world.specs.Ledger.{left_lines}
use Rattle.relay_hosts.proofs.ledger.push_left.Given as goal

-- the lines so far were added
abbrev pub invariant-loop-place : goal.invariant-loop-place
invariant-loop-place l = record {
  items : l.ledger.items ≡ l.fn.ledger.items ++ left_lines l.node l.message l.link l.report (take l.place-index l.left);
  len : vec_len l.ledger ≡ vec_len l.fn.ledger + l.place-index;
  capacity : vec_capacity l.fn.ledger ≤ vec_capacity l.ledger;
}

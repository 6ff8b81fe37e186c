use Rattle.std.proofs.Common.{◌-◌, ◌≤◌, ℕ, List, length, take}
use Rattle.relay_lines.specs.ReplySteps.{HasRead}
use Rattle.relay_pair.proofs.copies.replies_in.Given as goal

-- the reader has used so many octets, and cut these replies from them
abbrev pub invariant-loop-used : goal.invariant-loop-used
invariant-loop-used l = record {
  within : l.used ≤ length l.octets;
  rest : List ℕ;
  reads : HasRead l.reader (take l.used l.octets) l.replies.items rest;
}

abbrev pub decreases-loop-used : goal.decreases-loop-used
decreases-loop-used l = length l.octets - l.used

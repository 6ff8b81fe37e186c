-- the octets used so far were heard; no octet is used where the talk doesn't listen
use Rattle.std.proofs.Common.{◌≡◌, ◌-◌, ◌≤◌, ◌++◌, ℕ, List, length, take}
use Rattle.relay_log.specs.Talk.{HasHeard}
use Rattle.relay_log.proofs.talk.Talk.hear.Given as goal

abbrev pub invariant-loop-self : goal.invariant-loop-self
invariant-loop-self l = record {
  within : l.used ≤ length l.octets;
  by_data : l.self.by_data ≡ l.fn.self.by_data;
  heard : (before : List ℕ) → HasHeard l.fn.self before → HasHeard l.self (before ++ take l.used l.octets);
}

abbrev pub decreases-loop-self : goal.decreases-loop-self
decreases-loop-self l = length l.octets - l.used

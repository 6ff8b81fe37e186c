-- what has been used so far ends no reply, and is held
use Rattle.std.proofs.Common.{length, ◌-◌, ◌≤◌, ℕ, List, ◌++◌, take}
use Rattle.relay_lines.specs.ReplySteps.{HoldsRest}
use Rattle.relay_lines.proofs.reply_reader.ReplyReader.read.Given as goal

abbrev pub invariant-loop-used : goal.invariant-loop-used
invariant-loop-used l = record {
  within : l.used ≤ length l.piece;
  holds : (rest : List ℕ) → HoldsRest l.initial.self rest → HoldsRest l.self (rest ++ take l.used l.piece);
}

abbrev pub decreases-loop-used : goal.decreases-loop-used
decreases-loop-used l = length l.piece - l.used

use Rattle.std.proofs.Common.{length, ◌-◌, ◌≡◌, ◌≤◌, false, take}
use Rattle.relay_body.specs.DotSteps.{IsOpen}
use Rattle.relay_body.specs.DotReading.{Uses, limit_of}
use Rattle.relay_body.proofs.plain.read.Given as goal

-- what has been used so far ends no text
abbrev pub invariant-loop-used : goal.invariant-loop-used
invariant-loop-used l = record {
  within : l.used ≤ length l.piece;
  phase : IsOpen l.reader.phase;
  uses : Uses l.initial.reader l.reader (take l.used l.piece) false;
  limit : limit_of l.reader ≡ limit_of l.initial.reader;
}

abbrev pub decreases-loop-used : goal.decreases-loop-used
decreases-loop-used l = length l.piece - l.used

use Rattle.std.proofs.Common.{length, ◌-◌, ◌≡◌, ◌≤◌, false, take}
use Rattle.relay_body.specs.DotSteps.{IsOpen}
use Rattle.relay_body.specs.DotReading.{Uses, limit_of}
use Rattle.relay_body.proofs.dot_reader.DotReader.read.Given as goal

-- what has been used so far ends no text
abbrev pub invariant-loop-used : goal.invariant-loop-used
invariant-loop-used l = record {
  within : l.used ≤ length l.piece;
  phase : IsOpen l.self.phase;
  uses : Uses l.initial.self l.self (take l.used l.piece) false;
  limit : limit_of l.self ≡ limit_of l.initial.self;
}

abbrev pub decreases-loop-used : goal.decreases-loop-used
decreases-loop-used l = length l.piece - l.used

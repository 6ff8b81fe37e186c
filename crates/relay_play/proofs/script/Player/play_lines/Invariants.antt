use Rattle.std.proofs.Common.{length}
use Rattle.relay_disk.specs.Memory.{memory_words}
use Rattle.relay_play.proofs.ScriptLemmas.{AreUsedTo}
use Rattle.relay_play.proofs.script.Player.play_lines.Given as goal

abbrev pub invariant-loop-line : goal.invariant-loop-line
invariant-loop-line l =
    AreUsedTo (Unit {0}) memory_words l.octets l.fn.self.begun.items l.fn.self.play l.rest l.self.begun.items l.self.play

abbrev pub decreases-loop-line : goal.decreases-loop-line
decreases-loop-line l = length l.rest

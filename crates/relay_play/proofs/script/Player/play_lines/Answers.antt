-- The lines that end with some octets are played, one after another.
use Rattle.relay_disk.specs.Memory.{memory_words}
use Rattle.relay_play.proofs.ScriptLemmas.{all_used, line_used}
use Rattle.relay_play.proofs.script.Player.play_lines.Goals as goal

pub loop-line-preserved : goal.loop-line-preserved
loop-line-preserved c =
    line_used (Unit {0}) memory_words _ _ _ _ _ _ _ _ _ _ _ c.loop-line.invariant c.in-Some.ensures.0 c.in-Some.ensures.1 c.in_ok-extend_from_slice.ensures.items c.in_ok-play_begun.ensures.plays c.in_ok-play_begun.ensures.begun

pub returns : goal.returns
returns c =
    all_used (Unit {0}) memory_words _ _ _ _ _ _ _ c.loop-line.invariant c.in_default.ensures c.in_ok-extend_from_slice-2.ensures.items

-- A script is played from its first line on.
use Rattle.relay_disk.specs.Memory.{memory_words}
use Rattle.relay_play.proofs.ScriptLemmas.{whole_played}
use Rattle.relay_play.proofs.script.play.Goals as goal

pub returns : goal.returns
returns g c =
    whole_played (Unit {0}) memory_words tt c.promise_is_kept.ensures (g.R.Read.remaining c.args.reader.now) (g.R.Read.remaining c.play_blocks.new.reader) c.in_ok-new.field-0 c.play_blocks.new.self.play _ c.into_pair.result
    c.in_ok-new.ensures c.new-2.ensures.items c.in_ok-play_blocks.ensures c.into_pair.ensures

-- What one read gives is played, or the last line where it gives nothing.
use Rattle.relay_disk.specs.Memory.{memory_words}
use Rattle.relay_play.proofs.ScriptLemmas.{end_read}
use Rattle.relay_play.proofs.script.Player.play_block.Goals as goal

pub returns-then-count-eq0-clause-plays : goal.returns-then-count-eq0-clause-plays
returns-then-count-eq0-clause-plays g c = λ first front played.
    end_read (Unit {0}) memory_words (g.R.Read.remaining c.args.reader.now) (g.R.Read.remaining c.read.new.self) c.in-Ok.count c.read.new.buf first c.args.self.now.play c.end.new.self.play front c.args.self.now.begun.items c.end.new.self.begun.items
    c.in-Ok.ensures.bytes.0 c.if-count-eq0.true played c.in_ok-end.ensures

-- Block by block a whole script is played.
use Rattle.std.proofs.Common.{◌<◌, sym, subst}
use Rattle.relay_disk.specs.Memory.{memory_words}
use Rattle.relay_play.proofs.ScriptLemmas.{block_read, blocks_end}
use Rattle.relay_play.proofs.script.Player.play_blocks.Goals as goal

pub returns-then-branch : goal.returns-then-branch
returns-then-branch g c = λ first front played. (
  c.in_ok-play_block.ensures.end c.if-branch.true,
  blocks_end (Unit {0}) memory_words (g.R.Read.remaining c.args.reader.now) (g.R.Read.remaining c.loop.reader) (g.R.Read.remaining c.play_block.new.reader) first c.loop.self.play c.play_block.new.self.play front c.loop.self.begun.items c.play_block.new.self.begun.items c.in_ok-play_block.field-0
      (c.loop.invariant.1 first front played) (c.in_ok-play_block.ensures.plays first) c.if-branch.true,
)

pub loop-preserved : goal.loop-preserved
loop-preserved g c = (
  subst (λ n. 0 < n) (sym c.in_ok-play_block.ensures.len) c.loop.invariant.0,
  λ first front played.
      block_read (Unit {0}) memory_words (g.R.Read.remaining c.args.reader.now) (g.R.Read.remaining c.loop.reader) (g.R.Read.remaining c.play_block.new.reader) first c.loop.self.play c.play_block.new.self.play front c.loop.self.begun.items c.play_block.new.self.begun.items c.in_ok-play_block.field-0
      (c.loop.invariant.1 first front played) (c.in_ok-play_block.ensures.plays first) c.if-branch.false,
)

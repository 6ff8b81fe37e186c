-- the first word that isn't all ones
use Rattle.std.proofs.Common.{◌∙◌, arith}
use Rattle.relay_report.proofs.MarkLemmas.{full_word, in_word}
use Rattle.relay_report.proofs.marks.least_unmarked.Goals as goal

pub returns-then-word : goal.returns-then-word
returns-then-word c =
    in_word c.args.words.now c.loop-word.word-index c.loop-word.least c.from.result c.loop-word-test.true (omega (arith, c.type_inv.words c.loop-word.word-index)) c.if-word.true
    c.loop-word.invariant.0 c.loop-word.invariant.1 (c.from.ensures ∙ c.trailing_ones.ensures)

pub loop-word-preserved : goal.loop-word-preserved
loop-word-preserved c = (omega arith, full_word c.args.words.now c.loop-word.word-index c.loop-word.least c.loop-word.invariant.0 c.loop-word.invariant.1 c.if-word.false)

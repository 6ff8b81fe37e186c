-- a number more
use Rattle.relay_report.specs.Numbers.{all_begun}
use Rattle.relay_report.specs.Marks.{marked}
use Rattle.relay_report.proofs.MarkLemmas.{mark_one_more}
use Rattle.relay_report.proofs.marks.mark_all.Goals as goal

pub loop-number-preserved : goal.loop-number-preserved
loop-number-preserved c =
    mark_one_more c.loop-number.words.items c.mark_begun.new.words.items (marked c.args.words.now.items (all_begun c.args.numbers.now)) c.args.numbers.now c.loop-number.number-index
    c.loop-number-test.true c.mark_begun.ensures c.loop-number.invariant

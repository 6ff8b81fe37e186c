use Rattle.relay_rows_tests.proofs.PlayLemmas.{none_more}
use Rattle.relay_rows_tests.proofs.reply_play.read_some.Goals as goal

pub returns-in-None-clause-reads : goal.returns-in-None-clause-reads
returns-in-None-clause-reads c = λ used replies part read.
    none_more c.feed.new.self used part c.args.piece.now c.args.out.now.items replies c.in_ok-cut.cut.used c.in_ok-cut.cut.reply
    c.in-None.is c.in_ok-cut.ensures.whole (c.in_ok-cut.ensures.reads used replies part read)

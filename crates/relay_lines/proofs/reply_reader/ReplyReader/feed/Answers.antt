use Rattle.relay_lines.proofs.ReplyFeedLemmas.{feed_reads}
use Rattle.relay_lines.proofs.reply_reader.ReplyReader.feed.Goals as goal

pub returns-in-Ok-clause-reads : goal.returns-in-Ok-clause-reads
returns-in-Ok-clause-reads c = λ octets replies rest read.
    feed_reads c.args.self.now c.read.new.self c.in-Ok.cut.reply c.in-Ok.cut.used octets replies rest c.args.piece.now c.in-Ok.ensures.reads c.in-Ok.ensures.whole read

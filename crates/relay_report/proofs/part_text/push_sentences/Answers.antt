-- each verdict's text stands after those before it
use Rattle.std.specs.Option.{option_copied}
use Rattle.relay_report.specs.Multipart.{sentences_of}
use Rattle.relay_report.proofs.JoinLemmas.{all_written, written_more}
use Rattle.relay_report.proofs.part_text.push_sentences.Goals as goal

pub loop-ruling-preserved : goal.loop-ruling-preserved
loop-ruling-preserved c =
    written_more (sentences_of c.args.message.now c.args.hop.now c.args.now (option_copied c.args.until)) c.args.rulings.now c.loop-ruling.ruling-index c.ruling-item.result c.loop-ruling.out.items c.push_sentences_of.new.out.items _
    c.loop-ruling-test.true c.ruling-item.is c.in_ok-push_sentences_of.ensures c.loop-ruling.invariant

pub returns : goal.returns
returns c =
    all_written (sentences_of c.args.message.now c.args.hop.now c.args.now (option_copied c.args.until)) c.args.rulings.now c.loop-ruling.ruling-index c.loop-ruling.out.items _
    c.loop-ruling-test.false c.loop-ruling.invariant

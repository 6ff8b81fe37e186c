-- each verdict's text stands after those before it
use Rattle.relay_report.specs.Multipart.{line_of}
use Rattle.relay_report.proofs.JoinLemmas.{all_written, written_more}
use Rattle.relay_report.proofs.part_text.push_lines.Goals as goal

pub loop-ruling-preserved : goal.loop-ruling-preserved
loop-ruling-preserved c =
    written_more (line_of c.args.message.now c.args.now) c.args.rulings.now c.loop-ruling.ruling-index c.ruling-item.result c.loop-ruling.out.items c.push_line.new.out.items _
    c.loop-ruling-test.true c.ruling-item.is c.in_ok-push_line.ensures c.loop-ruling.invariant

pub returns : goal.returns
returns c =
    all_written (line_of c.args.message.now c.args.now) c.args.rulings.now c.loop-ruling.ruling-index c.loop-ruling.out.items _
    c.loop-ruling-test.false c.loop-ruling.invariant

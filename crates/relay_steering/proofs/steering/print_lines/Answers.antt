-- A line more is printed, until none is left.
use Rattle.relay_steering.specs.Lines.{printed}
use Rattle.relay_steering.proofs.LineLemmas.{all_printed, none_printed, printed_more}
use Rattle.relay_steering.proofs.ReportLemmas.{appends_on, on_ok}
use Rattle.relay_steering.proofs.steering.print_lines.Goals as goal

pub loop-rest-init : goal.loop-rest-init
loop-rest-init g c = none_printed (g.W.Write.contents c.args.writer.now) c.args.lines.now

pub loop-rest-preserved : goal.loop-rest-preserved
loop-rest-preserved g c =
    printed_more (g.W.Write.contents c.args.writer.now) (g.W.Write.contents c.loop-rest.writer) (g.W.Write.contents c.print_line.new.writer)
    c.args.lines.now c.loop-rest.rest c.in-Some.octets c.cut_line.result.0.now c.cut_line.result.1 c.loop-rest.invariant c.in-Some.is c.cut_line.ensures
    c.in_ok-print_line.ensures

pub returns : goal.returns
returns g c =
    on_ok c.flush.result _
    (appends_on (g.W.Write.contents c.args.writer.now) (g.W.Write.contents c.loop-rest.writer) (g.W.Write.contents c.flush.new.self) (printed c.args.lines.now)
    (all_printed (g.W.Write.contents c.args.writer.now) (g.W.Write.contents c.loop-rest.writer) c.args.lines.now c.loop-rest.rest c.loop-rest.invariant c.in_default.is)
    c.flush.ensures.bytes)

-- what was printed so far, and what is printed of the lines that are left, is what is printed of all
use Rattle.std.proofs.Common.{◌+◌, length}
use Rattle.std.specs.Option.{option_map_or}
use Rattle.relay_steering.proofs.LineLemmas.{HasPrinted, lines_left}
use Rattle.relay_steering.proofs.steering.print_lines.Given as goal

abbrev pub invariant-loop-rest : goal.invariant-loop-rest
invariant-loop-rest g l =
    HasPrinted (g.W.Write.contents l.fn.writer) (g.W.Write.contents l.writer) l.lines (lines_left l.rest)

abbrev pub decreases-loop-rest : goal.decreases-loop-rest
decreases-loop-rest g l = option_map_or (λ t. length t.now + 1) l.rest 0

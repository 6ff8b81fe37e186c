use Rattle.relay_script.specs.Line.Operand.{Count}
use Rattle.relay_script.specs.Reading.Kind.{CountKind}
use Rattle.relay_script.proofs.LineLemmas.{one_after}
use Rattle.relay_script.proofs.operands.count_after.Goals as goal

pub returns : goal.returns
returns c =
    one_after c.args.keyword.now c.args.line.now c.in_ok-word.word.now CountKind Count c.read_count.result c.in_ok-word.ensures c.read_count.ensures

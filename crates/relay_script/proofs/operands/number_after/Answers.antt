use Rattle.relay_script.specs.Line.Operand.{Number}
use Rattle.relay_script.specs.Reading.Kind.{NumberKind}
use Rattle.relay_script.proofs.LineLemmas.{one_after}
use Rattle.relay_script.proofs.operands.number_after.Goals as goal

pub returns : goal.returns
returns c =
    one_after c.args.keyword.now c.args.line.now c.in_ok-word.word.now NumberKind Number c.read_number.result c.in_ok-word.ensures c.read_number.ensures

use Rattle.relay_script.specs.Line.Operand.{Node}
use Rattle.relay_script.specs.Reading.Kind.{NodeKind}
use Rattle.relay_script.proofs.LineLemmas.{one_after}
use Rattle.relay_script.proofs.operands.node_after.Goals as goal

pub returns : goal.returns
returns c =
    one_after c.args.keyword.now c.args.line.now c.in_ok-word.word.now NodeKind Node c.read_node.result c.in_ok-word.ensures c.read_node.ensures

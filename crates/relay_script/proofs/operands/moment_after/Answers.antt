use Rattle.relay_script.specs.Line.Operand.{Time}
use Rattle.relay_script.specs.Reading.Kind.{TimeKind}
use Rattle.relay_script.proofs.LineLemmas.{one_after}
use Rattle.relay_script.proofs.operands.moment_after.Goals as goal

pub returns : goal.returns
returns c =
    one_after c.args.keyword.now c.args.line.now c.in_ok-word.word.now TimeKind Time c.read_moment.result c.in_ok-word.ensures c.read_moment.ensures

-- A subcommand with one more parameter.
use Rattle.relay_arguments.proofs.ShapeLemmas.{one_more_rule}
use Rattle.relay_arguments.proofs.syntax.subcommand.Goals as goal

pub loop-parameter-preserved : goal.loop-parameter-preserved
loop-parameter-preserved c =
    one_more_rule c.args.syntax.now.name.now c.args.syntax.now.parameters.now c.loop-parameter.parameter-index _ c.loop-parameter.command c.argument.result c.in_ok-command.command
    c.loop-parameter-test.true c.loop-parameter.invariant c.argument.ensures.rule c.argument.ensures.local c.in_ok-command.ensures

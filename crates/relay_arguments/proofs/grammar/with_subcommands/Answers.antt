-- The program with one more subcommand.
use Rattle.relay_arguments.proofs.ShapeLemmas.{one_more_subcommand}
use Rattle.relay_arguments.proofs.grammar.with_subcommands.Goals as goal

pub loop-syntax-preserved : goal.loop-syntax-preserved
loop-syntax-preserved c =
    one_more_subcommand c.args.table.now c.loop-syntax.syntax-index _ c.loop-syntax.command c.in_ok-subcommand.field-0 c.in_ok-command.command
    c.loop-syntax-test.true c.loop-syntax.invariant c.in_ok-subcommand.ensures c.in_ok-command.ensures

-- the parameters so far
use Rattle.std.proofs.Common.{◌≡◌, map, take}
use Rattle.clap.specs.Words.{app_of}
use Rattle.relay_arguments.specs.Arguments.{with_rules}
use Rattle.relay_arguments.specs.Grammar.{alone, rule_in}
use Rattle.relay_arguments.proofs.syntax.subcommand.Given as goal

abbrev pub invariant-loop-parameter : goal.invariant-loop-parameter
invariant-loop-parameter l =
    app_of l.command ≡ alone (with_rules l.syntax.name.now (map rule_in (take l.parameter-index l.syntax.parameters.now)))

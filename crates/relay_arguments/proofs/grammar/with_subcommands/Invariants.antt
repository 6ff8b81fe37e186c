-- the subcommands so far
use Rattle.std.proofs.Common.{◌≡◌, map, take}
use Rattle.clap.specs.Words.{app_of}
use Rattle.relay_arguments.specs.Arguments.{program_of}
use Rattle.relay_arguments.specs.Grammar.{shape_in}
use Rattle.relay_arguments.proofs.grammar.with_subcommands.Given as goal

abbrev pub invariant-loop-syntax : goal.invariant-loop-syntax
invariant-loop-syntax l = app_of l.command ≡ program_of (map shape_in (take l.syntax-index l.table))

-- What a table of subcommands and their parameters says: the grammar of the arguments.
use Rattle.std.specs.Prelude.{ℕ, List, [], map, true, Some}
use Rattle.clap.specs.Words.{App, Rule, Shape, new_rule}
use Rattle.clap.specs.declared.builder.action.ArgAction.TheVariants.{Set, SetTrue}
use Rattle.clap.specs.declared.builder.value_parser.ValueParser.TheVariants.{Unsigned}
use Rattle.relay_arguments.specs.Arguments.{with_rules}
use Rattle.relay_arguments.specs.declared.syntax.Form.{Form}
use Rattle.relay_arguments.specs.declared.syntax.Form.TheVariants.{Optional, Required, Positional}
use Rattle.relay_arguments.specs.declared.syntax.Parameter.{Parameter}
use Rattle.relay_arguments.specs.declared.syntax.Syntax.{Syntax}
use Rattle.relay_arguments.specs.declared.syntax.Takes.{Takes}
use Rattle.relay_arguments.specs.declared.syntax.Takes.TheVariants.{Nothing, Text, Number}

-- a switch takes nothing, and another parameter one value, which may be a number in a range
abbrev pub taking : Takes → Rule → Rule
taking Nothing rule = record rule { action = Some SetTrue }
taking (Text value) rule = record rule { action = Some Set; value_names = 1 }
taking (Number value least most) rule =
    record rule { action = Some Set; value_names = 1; parser = Some (Unsigned least most) }

-- an option is given by its name, a positional argument by its place, and the latter is required
abbrev pub in_form : Form → List ℕ → Rule → Rule
in_form Optional name rule = record rule { long = Some name }
in_form Required name rule = record rule { long = Some name; required = true }
in_form Positional name rule = record rule { required = true }

-- the rule of a parameter, without the form in which it is given
abbrev pub taking_rule_in : Parameter → Rule
taking_rule_in parameter = taking parameter.takes (new_rule parameter.name.now)

-- the rule of a parameter
abbrev pub rule_in : Parameter → Rule
rule_in parameter = in_form parameter.form parameter.name.now (taking_rule_in parameter)

-- a subcommand with its parameters
abbrev pub shape_in : Syntax → Shape
shape_in syntax = with_rules syntax.name.now (map rule_in syntax.parameters.now)

-- a grammar without subcommands
abbrev pub alone : Shape → App
alone shape = record { top = shape; subs = [] }

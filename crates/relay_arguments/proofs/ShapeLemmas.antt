-- The argument reader's picture of a command that grows by a row of a table.
use Rattle.std.proofs.Common.{◌≡◌, ◌∙◌, ◌<◌, ◌+◌, ◌++◌, ap, ap₂, sym, Bool, true, false, not, ◌&&◌, refl, ℕ, List, [], ◌∷◌}
use Rattle.std.proofs.Common.{get_or, length, map, take}
use Rattle.std.proofs.lemmas.List.{map-append, take_more}
use Rattle.clap.specs.Words.{AddsArg, AddsSubcommand, App, Shape, Text, app_of, rule_of, with_rule, with_subcommand}
use Rattle.clap.specs.declared.builder.arg.Arg.{Arg}
use Rattle.clap.specs.declared.builder.command.Command.{Command}
use Rattle.relay_arguments.specs.Arguments.{program_of, with_rules}
use Rattle.relay_arguments.specs.Grammar.{alone, rule_in, shape_in}
use Rattle.relay_arguments.specs.declared.syntax.Parameter.{Parameter}
use Rattle.relay_arguments.specs.declared.syntax.Syntax.{Syntax}

-- a plain command has nothing that its subcommands take over
third_is_not : (a b third more : Bool) → (a && (not b && (not third && more))) ≡ true → third ≡ false
third_is_not a b false more e = refl
third_is_not true true true more e = absurd cc
third_is_not true false true more e = absurd cc
third_is_not false b true more e = absurd cc

-- the first parameters, and one more
pub one_more_rule
    : (name : Text) (parameters : List Parameter) (i : ℕ) (d : Parameter) (old : Command) (arg : Arg) (new : Command)
    → i < length parameters → app_of old ≡ alone (with_rules name (map rule_in (take i parameters)))
    → rule_of arg ≡ rule_in (get_or parameters i d) → arg.global ≡ false → AddsArg old arg new
    → app_of new ≡ alone (with_rules name (map rule_in (take (i + 1) parameters)))
one_more_rule name parameters i d old arg new within so_far is local adds =
    adds.shape local ∙ (ap₂ with_rule so_far is ∙ sym (ap (λ rules. alone (with_rules name rules)) grown))
  where
    grown : map rule_in (take (i + 1) parameters) ≡ map rule_in (take i parameters) ++ rule_in (get_or parameters i d) ∷ []
    grown = ap (map rule_in) (take_more parameters i d within) ∙ map-append rule_in (take i parameters) (get_or parameters i d ∷ [])

-- these subcommands, and one more
one_more_shape : (shapes : List Shape) (shape : Shape) → with_subcommand (program_of shapes) shape ≡ program_of (shapes ++ shape ∷ [])
one_more_shape [] shape = refl
one_more_shape (first ∷ shapes) shape = refl

-- the first subcommands, and one more
pub one_more_subcommand
    : (table : List Syntax) (i : ℕ) (d : Syntax) (old sub new : Command) → i < length table
    → app_of old ≡ program_of (map shape_in (take i table)) → app_of sub ≡ alone (shape_in (get_or table i d))
    → AddsSubcommand old sub new → app_of new ≡ program_of (map shape_in (take (i + 1) table))
one_more_subcommand table i d old sub new within so_far is adds =
    adds.shape (third_is_not _ _ _ _ (ap (λ (app : App). app.top.is_plain) is))
    ∙ (ap₂ with_subcommand so_far (ap (λ (app : App). app.top) is)
    ∙ (one_more_shape (map shape_in (take i table)) (shape_in (get_or table i d)) ∙ sym (ap program_of grown)))
  where
    grown : map shape_in (take (i + 1) table) ≡ map shape_in (take i table) ++ shape_in (get_or table i d) ∷ []
    grown = ap (map shape_in) (take_more table i d within) ∙ map-append shape_in (take i table) (get_or table i d ∷ [])

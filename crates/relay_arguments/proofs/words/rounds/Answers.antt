-- What `--rounds` asks for, by the rows of a parse.
use Rattle.std.proofs.Common.{◌∙◌, ap, sym, codes, option_map, Option, Bor, List, ℕ}
use Rattle.std.specs.Option.{option_map_or}
use Rattle.clap.specs.Words.{found_of}
use Rattle.clap.proofs.WalkLemmas.{first_value-rows}
use Rattle.relay_arguments.specs.Arguments.{number_of}
use Rattle.relay_arguments.proofs.words.rounds.Goals as goal

of_value : Option (Bor (List ℕ)) → ℕ
of_value found = option_map_or (number_of 1 1000000) (option_map (λ text. text.now) found) 1

pub returns-in-Some : goal.returns-in-Some
unfolding of_value
returns-in-Some c =
    c.number_of.ensures.number ∙ (ap of_value (sym c.in-Some.is)
    ∙ ap (λ found. option_map_or (number_of 1 1000000) found 1) (c.get_str.ensures ∙ first_value-rows (found_of c.args.matches.now) (codes "rounds")))

pub returns-in-None : goal.returns-in-None
unfolding of_value
returns-in-None c =
    ap of_value (sym c.in-None.is)
    ∙ ap (λ found. option_map_or (number_of 1 1000000) found 1) (c.get_str.ensures ∙ first_value-rows (found_of c.args.matches.now) (codes "rounds"))

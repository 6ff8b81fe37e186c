-- Whether a switch was given, by the rows of a parse.
use Rattle.std.proofs.Common.{◌∙◌, ap, sym, codes, option_map, Option, Bor, Bool, false, List, ℕ}
use Rattle.std.specs.Option.{option_map_or}
use Rattle.std.specs.Str.{bytes_eq}
use Rattle.clap.specs.Words.{found_of}
use Rattle.clap.proofs.WalkLemmas.{first_value-rows}
use Rattle.relay_arguments.proofs.words.is_given.Goals as goal

is_set : List ℕ → Bool
is_set text = bytes_eq text (codes "true")

of_value : Option (Bor (List ℕ)) → Bool
of_value found = option_map_or is_set (option_map (λ text. text.now) found) false

pub returns-in-Some : goal.returns-in-Some
unfolding of_value is_set
returns-in-Some c =
    c.eq.ensures ∙ (ap of_value (sym c.in-Some.is)
    ∙ ap (λ found. option_map_or is_set found false) (c.get_str.ensures ∙ first_value-rows (found_of c.args.matches.now) c.args.switch.now))

pub returns-in-None : goal.returns-in-None
unfolding of_value is_set
returns-in-None c =
    ap of_value (sym c.in-None.is)
    ∙ ap (λ found. option_map_or is_set found false) (c.get_str.ensures ∙ first_value-rows (found_of c.args.matches.now) c.args.switch.now)

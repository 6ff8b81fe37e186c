-- The text of an option, by the rows of a parse.
use Rattle.std.proofs.Common.{◌≡◌, ◌∙◌, refl, Option, None, Some, option_map, List, ℕ, Bor}
use Rattle.std.specs.Option.{option_copied}
use Rattle.clap.specs.Words.{found_of}
use Rattle.clap.proofs.WalkLemmas.{first_value-rows}
use Rattle.relay_arguments.proofs.looks.text_of.Goals as goal

copied : (found : Option (Bor (List ℕ))) → option_copied found ≡ option_map (λ text. text.now) found
copied None = refl
copied (Some text) = refl

pub returns : goal.returns
returns c =
    copied c.get_str.result ∙ c.get_str.ensures ∙ first_value-rows (found_of c.args.matches.now) c.args.option.now

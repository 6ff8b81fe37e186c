-- Whether an option was given, by the rows of a parse.
use Rattle.std.proofs.Common.{◌≡◌, ◌∙◌, ap, refl, Option, None, Some, option_map, is_some, List, ℕ, Bor}
use Rattle.clap.specs.Words.{found_of}
use Rattle.clap.proofs.WalkLemmas.{first_value-rows}
use Rattle.relay_arguments.proofs.looks.is_some_text.Goals as goal

mapped : (found : Option (Bor (List ℕ))) → is_some found ≡ is_some (option_map (λ text. text.now) found)
mapped None = refl
mapped (Some text) = refl

pub returns : goal.returns
returns c =
    c.is_some.ensures ∙ (mapped c.get_str.result ∙ ap is_some (c.get_str.ensures ∙ first_value-rows (found_of c.args.matches.now) c.args.option.now))

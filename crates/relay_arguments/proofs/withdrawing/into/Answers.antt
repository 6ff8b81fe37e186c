-- The file to make, by the rows of a parse.
use Rattle.std.proofs.Common.{◌≡◌, ◌∙◌, ap, refl, Option, None, Some, option_map, unwrap_or, List, ℕ, [], Bor, codes}
use Rattle.clap.specs.Words.{found_of}
use Rattle.clap.proofs.WalkLemmas.{first_value-rows}
use Rattle.relay_arguments.proofs.withdrawing.into.Goals as goal

text_or : (found : Option (Bor (List ℕ))) (other : Bor (List ℕ)) → (unwrap_or found other).now ≡ unwrap_or (option_map (λ text. text.now) found) other.now
text_or None other = refl
text_or (Some text) other = refl

pub returns : goal.returns
returns c = ap (λ text. text.now) c.unwrap_or.ensures ∙ (text_or c.get_str.result _ ∙ ap (λ found. unwrap_or found []) (c.get_str.ensures ∙ first_value-rows (found_of c.args.matches.now) (codes "file")))

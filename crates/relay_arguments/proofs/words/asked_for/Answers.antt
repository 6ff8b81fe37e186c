-- What is asked by a subcommand's name and its rows.
use Rattle.std.proofs.Common.{◌≡◌, ◌∙◌, List, Option, None, Some, option_map}
use Rattle.clap.specs.Words.{Row, Text}
use Rattle.relay_arguments.specs.Arguments.{asked_by, asked_of}
use Rattle.relay_arguments.proofs.words.asked_for.Goals as goal

of_parts : {A : Type 0} (name_of : A → Text) (rows_of : A → List Row) (found : Option A) (name : Text) (rows : List Row) → Some name ≡ option_map name_of found
    → Some rows ≡ option_map (λ (p : Text × List Row). p.1) (option_map (λ it. (name_of it, rows_of it)) found)
    → asked_by name rows ≡ asked_of (option_map (λ it. (name_of it, rows_of it)) found)
of_parts name_of rows_of None name rows names its_rows = absurd (cc)
of_parts name_of rows_of (Some it) name rows names its_rows = cc

pub returns-in-Some : goal.returns-in-Some
returns-in-Some c = c.named.ensures ∙ of_parts _ _ _ _ _ c.in-Some.ensures.name c.in-Some.ensures.rows

use Rattle.std.proofs.Common.{List, ℕ, subst, ◌∙◌}
use Rattle.std.specs.Str.Parse.{ParsesUnsigned}
use Rattle.relay_lines.proofs.ChunkArgumentLemmas.{parsed-size, size_is_utf8}
use Rattle.relay_lines.proofs.chunk_argument.size_of_digits.Goals as goal

pub returns-in-Ok : goal.returns-in-Ok
returns-in-Ok c =
    let parses =
    subst
    (λ (text : List ℕ). ParsesUnsigned 32 10 text c.parse.result) c.in-Ok.ensures.cases.0 c.parse.ensures.value.0 in
    c.ok.ensures.value ∙ parsed-size c.args.digits.now c.parse.result c.requires parses

pub returns-in-Err : goal.returns-in-Err
returns-in-Err c = absurd (c.in-Err.ensures.cases.0 (size_is_utf8 c.args.digits.now c.requires))

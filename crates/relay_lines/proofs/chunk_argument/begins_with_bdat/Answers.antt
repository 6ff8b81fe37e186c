use Rattle.std.proofs.Common.{◌∙◌}
use Rattle.relay_lines.proofs.ChunkArgumentLemmas.{bdat_is_found, begins_by_test}
use Rattle.relay_lines.proofs.chunk_argument.begins_with_bdat.Goals as goal

pub returns-clause-begins : goal.returns-clause-begins
returns-clause-begins c =
    begins_by_test c.args.line.now c.is_some.result
    (c.is_some.ensures ∙ bdat_is_found c.args.line.now c.after_keyword.result c.after_keyword.ensures)

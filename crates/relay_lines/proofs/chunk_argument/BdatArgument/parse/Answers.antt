use Rattle.std.proofs.Common.{sym, ap, ◌∙◌}
use Rattle.std.specs.Option.{ok_or}
use Rattle.std.specs.Result.{result_ok}
use Rattle.relay_lines.proofs.ChunkArgumentLemmas.{bdat_argument_is_of_spelling}
use Rattle.relay_lines.proofs.chunk_argument.BdatArgument.parse.Goals as goal

pub returns-clause-spelled : goal.returns-clause-spelled
returns-clause-spelled c = λ argument.
    let law = bdat_argument_is_of_spelling c.args.text.now argument in (
      λ read. law.0 (sym c.read.ensures ∙ c.ok_or.ensures.ok_part ∙ ap result_ok read),
      λ spells. c.ok_or.ensures.value ∙ ap (λ found. ok_or found (record {})) (c.read.ensures ∙ law.1 spells),
    )

use Rattle.std.proofs.Common.{◌≢◌, length, sym, ◌∙◌, arith}
use Rattle.std.proofs.lemmas.Bool.{eqb-false}
use Rattle.relay_body.proofs.WritingLemmas.{last_two_decide}
use Rattle.relay_body.proofs.dot_writer.ends_in_line_end.Goals as goal

pub returns-else-is_empty : goal.returns-else-is_empty
returns-else-is_empty c =
    let content = c.args.content.now in
    let some : length content ≢ 0 = eqb-false (length content) 0 (sym c.if-is_empty.ensures) in
    c.ends_with.ensures.value ∙ last_two_decide content (omega arith)

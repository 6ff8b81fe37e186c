-- A search for a comma finds where the text falls into parts.
use Rattle.std.proofs.Common.{Some, None}
use Rattle.std.proofs.lemmas.List.{take_rest}
use Rattle.relay_queue.proofs.PartLemmas.{first_part_answer}
use Rattle.relay_queue.proofs.selection.first_part.Goals as goal

pub returns-in_err-place : goal.returns-in_err-place
returns-in_err-place c =
    rw c.from_residual.ensures (first_part_answer c.args.text.now None c.in_err-place.ensures)

pub returns : goal.returns
returns c =
    rw take_rest (first_part_answer c.args.text.now (Some c.in_ok-place.place) c.in_ok-place.ensures)

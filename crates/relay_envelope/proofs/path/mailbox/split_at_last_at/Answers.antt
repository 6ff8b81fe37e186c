-- A search for `@` from the end finds where the body splits.
use Rattle.std.proofs.Common.{Some, None}
use Rattle.std.proofs.lemmas.List.{take_rest}
use Rattle.relay_envelope.proofs.PathLemmas.{last_answer}
use Rattle.relay_envelope.proofs.path.mailbox.split_at_last_at.Goals as goal

pub returns-in_err-place : goal.returns-in_err-place
returns-in_err-place c =
    rw c.from_residual.ensures (last_answer 64 c.args.body.now None c.in_err-place.ensures)

pub returns : goal.returns
returns c =
    rw take_rest (last_answer 64 c.args.body.now (Some c.in_ok-place.place) c.in_ok-place.ensures)

use Rattle.relay_book.proofs.FieldLemmas.{none_of_fields, none_without_fields}
use Rattle.relay_book.proofs.decode.recipient.read_recipient.Goals as goal

pub returns-in_err-path : goal.returns-in_err-path
returns-in_err-path c = rw c.from_residual.ensures (none_without_fields c.args.text.now c.in_err-path.ensures)

pub returns-in_err-rcpt : goal.returns-in_err-rcpt
returns-in_err-rcpt c =
    rw c.from_residual-in_err-rcpt.ensures
    (none_of_fields c.args.text.now c.in_ok-path.path.now c.in_ok-path.number c.in_ok-path.orcpt.now c.in_ok-path.after.now c.in_ok-path.ensures c.in_err-rcpt.ensures)

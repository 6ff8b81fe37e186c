use Rattle.relay_book.proofs.PlacedLemmas.{no_place_after, no_recipient}
use Rattle.relay_book.proofs.decode.placed.read_one.Goals as goal

pub returns-in-None : goal.returns-in-None
returns-in-None c = no_place_after c.args.version _ _ _ c.in_ok-rcpt.ensures.0 c.in_ok-rcpt.ensures.1 c.in-None.ensures

pub returns-in_err-rcpt : goal.returns-in_err-rcpt
returns-in_err-rcpt c = rw c.from_residual.ensures (no_recipient c.args.version c.args.text.now c.in_err-rcpt.ensures)

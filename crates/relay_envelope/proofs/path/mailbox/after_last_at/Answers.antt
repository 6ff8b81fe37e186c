-- What a split at the last `@` leaves stands after it.
use Rattle.relay_envelope.proofs.StoredPathLemmas.{after_found}
use Rattle.relay_envelope.proofs.path.mailbox.after_last_at.Goals as goal

pub returns : goal.returns
returns c =
    after_found c.args.text.now c.in_ok-after.field-0-0.now c.in_ok-after.after.now c.in_ok-after.ensures

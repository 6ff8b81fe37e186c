use Rattle.std.proofs.Common.{arith}
use Rattle.relay_trace.proofs.DateLemmas.{shown_at}
use Rattle.relay_trace.proofs.date.shown_at.Goals as goal

pub returns : goal.returns
returns c =
    rw (← c.seconds.ensures.seconds) (shown_at c.seconds.result c.to_datetime.result _ (omega arith) c.in-Ok.ensures.value c.to_datetime.ensures)

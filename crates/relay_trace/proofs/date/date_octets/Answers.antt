use Rattle.std.proofs.Common.{arith}
use Rattle.jiff_core.proofs.SignedLemmas.{signed_arith}
use Rattle.relay_trace.proofs.DateLemmas.{year_is_positive}
use Rattle.relay_trace.proofs.date.date_octets.Goals as goal

pub print-requires : goal.print-requires
print-requires c =
    let since = year_is_positive c.args.moment c.shown_at.result c.shown_at.ensures in
    omega (arith, signed_arith, since)
